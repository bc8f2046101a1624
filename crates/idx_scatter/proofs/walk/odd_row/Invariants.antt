use Rattle.std.proofs.Common.{◌≡◌, ℕ, List, [], ◌∷◌}
use Rattle.idx_lanes.specs.Spread.{part_after}
use Rattle.idx_scatter.specs.Legs.{EachMove}
use Rattle.idx_scatter.specs.Moves.{IsWanted}
use Rattle.idx_scatter.proofs.MoveLemmas.{AreSoFar}
use Rattle.idx_scatter.proofs.walk.odd_row.Given as goal

-- the moves so far are made
abbrev pub invariant-loop-k : goal.invariant-loop-k
invariant-loop-k g l = record {
  part : l.part ≡ part_after l.lane.bits l.lane.first l.k;
  made : (want : ℕ → List ℕ) → EachMove (IsWanted want (g.S.Sample.bytes l.sample) l.samples) l.legs (l.lane ∷ []) l.place l.rows →
      AreSoFar want (g.S.Sample.bytes l.sample) l.legs l.lane [] l.place l.rows l.k l.initial.into l.into;
}
