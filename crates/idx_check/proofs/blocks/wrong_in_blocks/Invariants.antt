use Rattle.std.proofs.Common.{◌≡◌, ℕ, length, min}
use Rattle.std.specs.Prelude.{IfSome}
use Rattle.idx_outside.specs.Cause.{AskedFor}
use Rattle.idx_table.specs.Table.{table_bytes}
use Rattle.idx_layout.specs.Files.{row_count}
use Rattle.idx_layout.specs.OfHeader.{placing_of}
use Rattle.idx_check.specs.Pieces.{ReadsOn}
use Rattle.idx_check.proofs.FieldLemmas.{begins_at}
use Rattle.idx_check.proofs.TableLemmas.{Agrees}
use Rattle.idx_check.proofs.blocks.wrong_in_blocks.Given as goal

abbrev pub invariant-loop-field : goal.invariant-loop-field
invariant-loop-field g l =
    let contents = g.L.Leaf.contents l.leaf in
    let reader = g.R.Reader in
    record {
      begins : l.at ≡ begins_at (placing_of l.header) l.file l.field;
      agree : IfSome contents (λ bytes. Agrees (placing_of l.header) l.file bytes (table_bytes (row_count (placing_of l.header))) l.at);
      fresh : length l.piece.bytes.items ≡ l.piece.used;
      asked : (before : ℕ) → AskedFor before (reader.asked l.fn.reader) (min (table_bytes (row_count (placing_of l.header))) l.there) → AskedFor before (reader.asked l.reader) (min l.at l.there);
      pieces : ReadsOn reader.reads reader.asked l.fn.reader l.reader (table_bytes (row_count (placing_of l.header))) l.at;
      quiet : reader.faults l.reader ≡ reader.faults l.fn.reader;
    }
