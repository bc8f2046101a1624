use Rattle.std.proofs.Common.{◌≡◌, ◌++◌}
use Rattle.std.specs.Prelude.{replicate}
use Rattle.std.specs.List.{flat_map}
use Rattle.idx_outside.specs.Contents.{appended}
use Rattle.idx_layout.specs.Files.{rows_of_file}
use Rattle.idx_layout.specs.OfHeader.{placing_of}
use Rattle.idx_table.specs.Row.{row_bytes}
use Rattle.idx_dock.proofs.gathered.put_table.Given as goal

-- what is written, and the bytes of the rows that are left behind it, are all
abbrev pub invariant-loop-row : goal.invariant-loop-row
invariant-loop-row g l =
    let draft = g.D.Draft in
    record {
      written : appended (appended (draft.contents l.draft) l.buffer.items) (flat_map row_bytes l.row-iterator)
          ≡ appended (appended (draft.contents l.fn.draft) l.fn.buffer.items) (replicate 40 0 ++ flat_map row_bytes (rows_of_file l.fn.layout (placing_of l.header) l.file));
      quiet : draft.faults l.draft ≡ draft.faults l.fn.draft;
      path : draft.path l.draft ≡ draft.path l.fn.draft;
    }
