use Rattle.std.proofs.Common.{◌≡◌}
use Rattle.std.specs.List.{flat_map}
use Rattle.idx_outside.specs.Contents.{appended}
use Rattle.idx_dock.specs.Content.{field_among, runs_in, stored_among}
use Rattle.idx_dock.proofs.ContentLemmas.{AreAhead}
use Rattle.idx_dock.proofs.content.put_field.Given as goal

-- what is written, and the blocks that are left behind it, are all
abbrev pub invariant-loop-block : goal.invariant-loop-block
invariant-loop-block g l =
    let draft = g.D.Draft in
    record {
      ahead : AreAhead l.header l.field l.awaited l.passed l.block-iterator;
      written : appended (appended (draft.contents l.draft) l.buffer.items) (flat_map (stored_among l.layout l.header (runs_in l.awaited) l.field) l.block-iterator)
          ≡ appended (appended (draft.contents l.fn.draft) l.fn.buffer.items) (field_among l.layout l.header l.file (runs_in l.awaited) l.field);
      quiet : draft.faults l.draft ≡ draft.faults l.fn.draft;
      path : draft.path l.draft ≡ draft.path l.fn.draft;
    }
