use Rattle.std.proofs.Common.{◌≡◌, ℕ, ◌-◌, min}
use Rattle.std.specs.Prelude.{IfSome}
use Rattle.idx_outside.specs.Cause.{AskedFor}
use Rattle.idx_layout.specs.OfHeader.{placing_of}
use Rattle.idx_check.specs.Piece.{AskedUpTo, IsOnTheWay}
use Rattle.idx_check.specs.Pieces.{ReadsOn, read_to}
use Rattle.idx_check.proofs.FieldLemmas.{AreSeen}
use Rattle.idx_check.proofs.TableLemmas.{Agrees}
use Rattle.idx_check.proofs.blocks.wrong_in_field.Given as goal

abbrev pub invariant-loop-block : goal.invariant-loop-block
invariant-loop-block g l =
    let contents = g.L.Leaf.contents l.leaf in
    let reader = g.R.Reader in
    record {
      seen : AreSeen (placing_of l.header) l.file l.field l.block-iterator l.at l.next;
      agree : IfSome contents (λ bytes. Agrees (placing_of l.header) l.file bytes l.at l.next);
      way : IsOnTheWay contents l.piece.bytes.items l.piece.used l.run.bytes l.next (l.end - l.next);
      asked : (before : ℕ) → AskedFor before (reader.asked l.fn.reader) (min l.at l.there) →
          AskedUpTo before (reader.asked l.reader) l.piece.bytes.items l.piece.used l.next l.there;
      pieces : ReadsOn reader.reads reader.asked l.fn.reader l.reader l.at (read_to l.next l.piece.bytes.items l.piece.used);
      quiet : reader.faults l.reader ≡ reader.faults l.fn.reader;
    }
