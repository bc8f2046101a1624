use Rattle.std.proofs.Common.{ℕ, List, [], ◌∷◌}
use Rattle.idx_lanes.specs.Copies.{EachCopy, IsWanted}
use Rattle.idx_lanes.proofs.CopyLemmas.{AreSoFar}
use Rattle.idx_block.proofs.rows.copy_column.Given as goal

-- the copies so far are made
abbrev pub invariant-loop-k : goal.invariant-loop-k
invariant-loop-k g l = (want : ℕ → List ℕ) → EachCopy (IsWanted want (g.S.Sample.bytes l.sample) l.samples) (l.band ∷ []) l.from l.place →
    AreSoFar want (g.S.Sample.bytes l.sample) l.band [] l.from l.place l.k l.initial.into l.into
