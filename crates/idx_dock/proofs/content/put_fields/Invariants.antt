use Rattle.std.proofs.Common.{◌≡◌, ◌-◌, length}
use Rattle.std.specs.List.{flat_map, range_with_len}
use Rattle.idx_outside.specs.Contents.{appended}
use Rattle.idx_dock.specs.Content.{field_among, fields_among, runs_in}
use Rattle.idx_dock.proofs.content.put_fields.Given as goal

-- what is written, and the fields that are left behind it, are all
abbrev pub invariant-loop-field : goal.invariant-loop-field
invariant-loop-field g l =
    let draft = g.D.Draft in
    record {
      passed : length l.passed ≡ length l.awaited;
      written : appended (appended (draft.contents l.draft) l.buffer.items) (flat_map (field_among l.layout l.header l.file (runs_in l.awaited)) (range_with_len l.field (length l.header.fields - l.field)))
          ≡ appended (appended (draft.contents l.fn.draft) l.fn.buffer.items) (fields_among l.layout l.header l.file (runs_in l.awaited));
      quiet : draft.faults l.draft ≡ draft.faults l.fn.draft;
      path : draft.path l.draft ≡ draft.path l.fn.draft;
    }
