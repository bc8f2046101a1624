use Rattle.std.proofs.Common.{◌≡◌, ℕ, ◌-◌, ◌≤◌, List, [], ◌∷◌}
use Rattle.idx_lanes.specs.Spread.{part_after}
use Rattle.idx_lanes.specs.Copies.{EachCopy, IsWanted}
use Rattle.idx_lanes.proofs.CopyLemmas.{AreSoFar}
use Rattle.idx_block.proofs.rows.rows.Given as goal

-- the rows so far are copied
abbrev pub invariant-loop-k : goal.invariant-loop-k
invariant-loop-k g l = record {
  within : l.k ≤ l.slower.count;
  part : l.part ≡ part_after l.slower.bits l.slower.first l.k;
  made : (want : ℕ → List ℕ) → EachCopy (IsWanted want (g.S.Sample.bytes l.sample) l.samples) (l.slower ∷ l.lane ∷ []) l.from l.place →
      AreSoFar want (g.S.Sample.bytes l.sample) l.slower (l.lane ∷ []) l.from l.place l.k l.initial.into l.into;
}

abbrev pub decreases-loop-k : goal.decreases-loop-k
decreases-loop-k g l = l.slower.count - l.k
