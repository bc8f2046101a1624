use Rattle.std.proofs.Common.{◌≡◌, ◌≤◌, ◌-◌}
use Rattle.std.specs.List.{flat_map, range_with_len}
use Rattle.idx_outside.specs.Contents.{appended}
use Rattle.idx_dock.specs.Content.{block_among, runs_in, sample_among}
use Rattle.idx_dock.specs.Next.{ArePassed}
use Rattle.idx_dock.proofs.content.put_block.Given as goal

-- what is written, and the samples that are left behind it, are the block
abbrev pub invariant-loop-from : goal.invariant-loop-from
invariant-loop-from g l =
    let draft = g.D.Draft in
    record {
      within : l.from ≤ l.end;
      passed : ArePassed l.header l.field l.from l.awaited l.passed;
      written : appended (appended (draft.contents l.draft) l.buffer.items) (flat_map (sample_among l.header (runs_in l.awaited) l.field) (range_with_len l.from (l.end - l.from)))
          ≡ appended (appended (draft.contents l.fn.draft) l.fn.buffer.items) (block_among l.header (runs_in l.awaited) l.field l.block);
      quiet : draft.faults l.draft ≡ draft.faults l.fn.draft;
      path : draft.path l.draft ≡ draft.path l.fn.draft;
    }

abbrev pub decreases-loop-from : goal.decreases-loop-from
decreases-loop-from g l = l.end - l.from
