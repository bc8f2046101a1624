use Rattle.std.proofs.Common.{◌≡◌, ◌-◌}
use Rattle.std.specs.Prelude.{IfSome}
use Rattle.idx_table.specs.Table.{table_bytes}
use Rattle.idx_layout.specs.Files.{row_count}
use Rattle.idx_layout.specs.OfHeader.{placing_of}
use Rattle.idx_check.specs.Piece.{AskedUpTo, IsOnTheWay}
use Rattle.idx_check.specs.Pieces.{ReadsOn, read_to}
use Rattle.idx_check.proofs.TableLemmas.{Agrees, AreLooked}
use Rattle.idx_check.proofs.table.wrong_in_table.Given as goal

abbrev pub invariant-loop-row : goal.invariant-loop-row
invariant-loop-row g l =
    let contents = g.L.Leaf.contents l.leaf in
    let reader = g.R.Reader in
    record {
      looked : AreLooked (placing_of l.header) l.file l.row-iterator l.at;
      agree : IfSome contents (λ bytes. Agrees (placing_of l.header) l.file bytes 0 l.at);
      way : IsOnTheWay contents l.piece.bytes.items l.piece.used 40 l.at (table_bytes (row_count (placing_of l.header)) - l.at);
      asked : AskedUpTo (reader.asked l.fn.reader) (reader.asked l.reader) l.piece.bytes.items l.piece.used l.at l.there;
      pieces : ReadsOn reader.reads reader.asked l.fn.reader l.reader 0 (read_to l.at l.piece.bytes.items l.piece.used);
      quiet : reader.faults l.reader ≡ reader.faults l.fn.reader;
    }
