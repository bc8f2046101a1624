use Rattle.std.proofs.Common.{◌≡◌, ◌-◌, ◌*◌, ◌^◌, ◌<◌, ◌++◌, length}
use Rattle.std.specs.Prelude.{All, filter}
use Rattle.std.specs.List.{flat_map, range_with_len, AllByRecursion}
use Rattle.idx_pieces.specs.Runs.{has_address}
use Rattle.idx_ship.specs.Spans.{IsSpan, all_addresses, block_addresses}
use Rattle.idx_ship.proofs.in_file.spans_in_file.Given as goal

-- the addresses of the spans so far, and those of the blocks that are left, are all of the file
abbrev pub invariant-loop-block : goal.invariant-loop-block
invariant-loop-block l = record {
  addresses : all_addresses l.spans.items ++ flat_map (block_addresses l.mask l.region l.bits) l.block-iterator
      ≡ filter (has_address l.mask l.region) (range_with_len (l.file * 2 ^ l.bits) (l.per_file * 2 ^ l.bits));
  each : All (IsSpan l.mask) l.spans.items;
  exist : AllByRecursion (λ block. block < 2 ^ (length l.mask - l.bits)) l.block-iterator;
}
