use Rattle.std.proofs.Common.{◌≡◌, ◌+◌, ◌-◌, ◌*◌, ◌^◌}
use Rattle.std.specs.List.{flat_map, range_with_len}
use Rattle.idx_outside.specs.Contents.{appended}
use Rattle.idx_rowmajor.specs.declared.layout.Layout.TheVariants.{Rows}
use Rattle.idx_dock.specs.Content.{runs_in, stored_among}
use Rattle.idx_dock.specs.Next.{ArePassed}
use Rattle.idx_dock.proofs.PlaceLemmas.{sample_by_place}
use Rattle.idx_dock.proofs.rows.put_by_place.Given as goal

-- what is written, and the samples that are left behind it, are the block
abbrev pub invariant-loop-place : goal.invariant-loop-place
invariant-loop-place g l =
    let draft = g.D.Draft in
    record {
      passed : ArePassed l.header l.field ((l.block + 1) * 2 ^ l.header.block_bits) l.awaited l.passed;
      written : appended (appended (draft.contents l.draft) l.buffer.items) (flat_map (sample_by_place l.header (runs_in l.awaited) l.field l.block) (range_with_len l.place (l.samples - l.place)))
          ≡ appended (appended (draft.contents l.fn.draft) l.fn.buffer.items) (stored_among Rows l.header (runs_in l.awaited) l.field l.block);
      quiet : draft.faults l.draft ≡ draft.faults l.fn.draft;
      path : draft.path l.draft ≡ draft.path l.fn.draft;
    }
