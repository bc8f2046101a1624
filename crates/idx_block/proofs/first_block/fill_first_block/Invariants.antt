use Rattle.std.proofs.Common.{◌≡◌, ◌*◌, ◌^◌, take}
use Rattle.std.specs.List.{flat_map, range_with_len}
use Rattle.idx_block.specs.Stored.{stored}
use Rattle.idx_block.proofs.first_block.fill_first_block.Given as goal

-- the levels so far are made
abbrev pub invariant-loop-level : goal.invariant-loop-level
invariant-loop-level l = record {
  front : l.filled ≡ l.size * 2 ^ l.level;
  made : take l.filled l.into ≡ flat_map (stored l.mask l.region l.size l.samples) (range_with_len 0 (2 ^ l.level));
}
