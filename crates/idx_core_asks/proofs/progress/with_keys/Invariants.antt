use Rattle.std.proofs.Common.{◌≡◌, map, take}
use Rattle.idx_hall.specs.Calls.{pairs_of}
use Rattle.idx_plan.specs.Needed.{key_of}
use Rattle.idx_core_asks.proofs.progress.with_keys.Given as goal

abbrev pub invariant-loop-block : goal.invariant-loop-block
invariant-loop-block l = pairs_of l.pairs.items ≡ map (λ pair. (key_of l.ask pair.0, pair.1)) (take l.block-index l.blocks)
