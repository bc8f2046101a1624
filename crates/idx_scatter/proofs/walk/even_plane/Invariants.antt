use Rattle.std.proofs.Common.{◌≡◌, ℕ, List, [], ◌∷◌}
use Rattle.idx_lanes.specs.Spread.{part_after}
use Rattle.idx_scatter.specs.Legs.{EachMove}
use Rattle.idx_scatter.specs.Moves.{IsWanted}
use Rattle.idx_scatter.proofs.MoveLemmas.{AreSoFar}
use Rattle.idx_scatter.proofs.walk.even_plane.Given as goal

-- the moves so far are made
abbrev pub invariant-loop-j : goal.invariant-loop-j
invariant-loop-j g l = record {
  part : l.part ≡ part_after l.slower.bits l.slower.first l.j;
  made : (want : ℕ → List ℕ) → EachMove (IsWanted want (g.S.Sample.bytes l.sample) l.samples) l.legs (l.slower ∷ l.lane ∷ []) l.place l.rows →
      AreSoFar want (g.S.Sample.bytes l.sample) l.legs l.slower (l.lane ∷ []) l.place l.rows l.j l.initial.into l.into;
}
