use Rattle.std.proofs.Common.{arith}
use Rattle.std.proofs.lemmas.Result.{on_ok_weaker}
use Rattle.idx_table.specs.Table.{table_bytes}
use Rattle.idx_layout.specs.Files.{length_of_file, row_count}
use Rattle.idx_layout.specs.OfHeader.{placing_of}
use Rattle.idx_layout.specs.Placing.{Placing}
use Rattle.idx_layout.proofs.OffsetLemmas.{length_of_file-sums}
use Rattle.idx_check.proofs.PiecesLemmas.{reads_both, reads_wider}
use Rattle.idx_check.proofs.file.wrong_place.Goals as goal

pub returns-then-is_some-clause-pieces : goal.returns-then-is_some-clause-pieces
returns-then-is_some-clause-pieces g c =
    let l : Placing = placing_of c.args.header.now in
    let reads = g.R.Reader.reads in
    let asked = g.R.Reader.asked in
    reads_wider (reads c.args.reader.now) (reads c.wrong_in_table.new.reader) (asked c.args.reader.now) (asked c.wrong_in_table.new.reader) 0 (table_bytes (row_count l)) 0 (length_of_file l c.args.file)
    (omega (arith, length_of_file-sums l c.args.file)) c.in_ok-found.ensures.pieces

pub returns-clause-pieces : goal.returns-clause-pieces
returns-clause-pieces g c =
    let l : Placing = placing_of c.args.header.now in
    let reads = g.R.Reader.reads in
    let asked = g.R.Reader.asked in
    on_ok_weaker c.wrong_in_blocks.result
    (reads_both (reads c.args.reader.now) (reads c.wrong_in_table.new.reader) (reads c.wrong_in_blocks.new.reader) (asked c.args.reader.now) (asked c.wrong_in_table.new.reader) (asked c.wrong_in_blocks.new.reader)
    0 (table_bytes (row_count l)) (length_of_file l c.args.file) c.in_ok-found.ensures.pieces)
    c.wrong_in_blocks.ensures.pieces
