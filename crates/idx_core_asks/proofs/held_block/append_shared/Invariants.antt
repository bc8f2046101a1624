use Rattle.std.proofs.Common.{◌≡◌, ◌++◌, take}
use Rattle.idx_core_asks.proofs.held_block.append_shared.Given as goal

abbrev pub invariant-loop-block : goal.invariant-loop-block
invariant-loop-block l = l.to.items ≡ l.fn.to.items ++ take l.block-index l.blocks
