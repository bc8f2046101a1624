use Rattle.std.proofs.Common.{ℕ, ◌+◌, ◌*◌, ◌<◌}
use Rattle.idx_block.specs.Stored.{stored}
use Rattle.idx_lanes.specs.Copies.{IsRight}
use Rattle.idx_block.proofs.by_addresses.fill_by_addresses.Given as goal

-- the samples so far stand at their places
abbrev pub invariant-loop-k : goal.invariant-loop-k
invariant-loop-k l = (o : ℕ) → o < l.k → IsRight (λ i. stored l.mask l.region l.size l.samples (l.block * l.count + i)) l.size l.into o
