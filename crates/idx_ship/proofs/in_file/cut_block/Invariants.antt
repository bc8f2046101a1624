use Rattle.idx_ship.specs.Spans.{AreAdded, block_addresses}
use Rattle.idx_ship.proofs.in_file.cut_block.Given as goal

-- the levels so far are cut
abbrev pub invariant-loop-level : goal.invariant-loop-level
invariant-loop-level l = AreAdded l.mask (block_addresses l.mask l.region l.level 0) l.fn.spans.items l.spans.items
