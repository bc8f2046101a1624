use Rattle.std.proofs.Common.{◌≡◌, ℕ, ◌+◌, ◌*◌, ◌≤◌, ◌++◌, List, Some, length}
use Rattle.std.specs.Prelude.{IfSome, slice_get}
use Rattle.idx_outside.specs.Files.{StillAdmits, shown}
use Rattle.idx_table.specs.declared.row.Row.{Row}
use Rattle.idx_outside.specs.Cause.{MadeReads}
use Rattle.idx_table.specs.Table.{table_bytes}
use Rattle.idx_layout.specs.Files.{row_count}
use Rattle.idx_layout.specs.OfHeader.{placing_of}
use Rattle.idx_edition.specs.Asked.{AskedAtMost}
use Rattle.idx_edition.specs.Tables.{AreTablesOf, IsTable, RiseFrom}
use Rattle.idx_edition.proofs.SoFarLemmas.{HoldSoFar}
use Rattle.idx_edition.specs.Reads.{count_there, most_reads}
use Rattle.idx_edition.proofs.edition.Edition.open_files.Given as goal

-- the numbers, tables and files so far are those of the files before the ones that are left
abbrev pub invariant-loop-file : goal.invariant-loop-file
invariant-loop-file g l =
    let bay = g.B.Bay in
    let contents = g.L.Leaf.contents in
    record {
      rising : RiseFrom 0 (l.numbers.items ++ l.file-iterator);
      same : length l.tables.items ≡ length l.numbers.items;
      each : (i : ℕ) (rows : List Row) → slice_get l.tables.items i ≡ Some rows → IsTable l.lengths.items l.header.blocks_per_file rows;
      fits : AreTablesOf l.tables.items (shown contents l.leaves.items);
      holds : IfSome (bay.files l.fn.bay) (λ files. HoldSoFar l.header l.time files l.file-iterator l.numbers.items l.tables.items (shown contents l.leaves.items));
      files : bay.files l.bay ≡ bay.files l.fn.bay;
      header : bay.header l.bay ≡ bay.header l.fn.bay;
      admits : StillAdmits bay.admits l.fn.bay l.bay;
      begun : bay.begun l.bay ≡ bay.begun l.fn.bay;
      changes : bay.changes l.bay ≡ bay.changes l.fn.bay;
      failed : bay.failed l.bay ≡ bay.failed l.fn.bay;
      quiet : bay.faults l.bay ≡ bay.faults l.fn.bay;
      reader_quiet : g.R.Reader.faults l.reader ≡ g.R.Reader.faults l.fn.reader;
      few : length l.leaves.items + count_there l.header l.time (bay.files l.fn.bay) l.file-iterator ≤ most_reads l.header l.time (bay.files l.fn.bay);
      reads : MadeReads (g.R.Reader.reads l.fn.reader) (g.R.Reader.reads l.reader) (length l.leaves.items);
      asked : AskedAtMost (g.R.Reader.asked l.fn.reader) (g.R.Reader.asked l.reader) (length l.leaves.items * table_bytes (row_count (placing_of l.header)));
    }
