use Rattle.std.proofs.Common.{◌≡◌, ◌≤◌, ◌^◌, map}
use Rattle.std.specs.Prelude.{max}
use Rattle.std.specs.List.{fold, range_with_len}
use Rattle.idx_header.specs.Header.{block_bytes}
use Rattle.idx_query.proofs.capacity.largest_block.Given as goal

abbrev pub invariant-loop-field : goal.invariant-loop-field
invariant-loop-field l =
    record {
      same : l.largest ≡ fold max 1 (map (block_bytes l.header) (range_with_len 0 l.field));
      some : 1 ≤ l.largest;
      few : l.largest ≤ 2 ^ 24;
    }
