use Rattle.std.proofs.Common.{ℕ, ◌≤◌, ◌<◌, ◌^◌}
use Rattle.idx_header.specs.Header.{block_bytes}
use Rattle.idx_dock.proofs.dock.longest_block.Given as goal

-- no field before this one has a longer block
abbrev pub invariant-loop-field : goal.invariant-loop-field
invariant-loop-field l =
    record {
      holds : (k : ℕ) → k < l.field → block_bytes l.header k ≤ l.longest;
      few : l.longest ≤ 2 ^ 24;
    }
