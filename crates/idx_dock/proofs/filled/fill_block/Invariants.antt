use Rattle.std.proofs.Common.{◌≡◌, ◌≤◌, ◌+◌, ◌-◌, ◌*◌, ◌++◌}
use Rattle.std.specs.Prelude.{vec_capacity, vec_len}
use Rattle.std.specs.List.{flat_map, range_with_len}
use Rattle.idx_header.specs.Header.{block_bytes, sample_bytes_of}
use Rattle.idx_dock.specs.Content.{block_among, runs_in, sample_among}
use Rattle.idx_dock.specs.Next.{ArePassed}
use Rattle.idx_dock.proofs.filled.fill_block.Given as goal

-- what is there, and the samples that are left behind it, are the block
abbrev pub invariant-loop-from : goal.invariant-loop-from
invariant-loop-from l =
    record {
      within : l.from ≤ l.end;
      passed : ArePassed l.header l.field l.from l.awaited l.passed;
      filled : l.bytes.items ++ flat_map (sample_among l.header (runs_in l.awaited) l.field) (range_with_len l.from (l.end - l.from))
          ≡ block_among l.header (runs_in l.awaited) l.field l.block;
      len : vec_len l.bytes + sample_bytes_of l.header l.field * (l.end - l.from) ≡ block_bytes l.header l.field;
      room : block_bytes l.header l.field ≤ vec_capacity l.bytes;
    }

abbrev pub decreases-loop-from : goal.decreases-loop-from
decreases-loop-from l = l.end - l.from
