use Rattle.std.proofs.Common.{◌≡◌, ℕ, ◌+◌, ◌-◌, ◌*◌, ◌^◌}
use Rattle.std.specs.Prelude.{IfSome}
use Rattle.idx_check.specs.Piece.{AskedUpTo, IsOnTheWay}
use Rattle.idx_check.specs.Pieces.{ReadsOn, read_to}
use Rattle.idx_check.proofs.RunLemmas.{CleanTo}
use Rattle.idx_check.proofs.blocks.wrong_in_block.Given as goal

abbrev pub invariant-loop-k : goal.invariant-loop-k
invariant-loop-k g l =
    let contents = g.L.Leaf.contents l.leaf in
    let reader = g.R.Reader in
    record {
      next : l.next ≡ l.at + l.k * l.run.bytes;
      clean : IfSome contents (CleanTo l.header.mask l.header.box l.run.size (l.block * 2 ^ l.header.block_bits) l.at (l.k * l.run.bytes));
      way : IsOnTheWay contents l.piece.bytes.items l.piece.used l.run.bytes l.next (l.stretch.end - l.next);
      asked : (before : ℕ) → AskedUpTo before (reader.asked l.fn.reader) l.fn.piece.bytes.items l.fn.piece.used l.at l.stretch.there →
          AskedUpTo before (reader.asked l.reader) l.piece.bytes.items l.piece.used l.next l.stretch.there;
      pieces : ReadsOn reader.reads reader.asked l.fn.reader l.reader (read_to l.at l.fn.piece.bytes.items l.fn.piece.used) (read_to l.next l.piece.bytes.items l.piece.used);
      quiet : reader.faults l.reader ≡ reader.faults l.fn.reader;
    }
