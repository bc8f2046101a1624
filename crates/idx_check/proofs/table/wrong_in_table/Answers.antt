use Rattle.std.proofs.Common.{ℕ, ◌+◌, ◌-◌, min, sym, ◌∙◌, subst, arith}
use Rattle.idx_outside.specs.Cause.{AskedFor}
use Rattle.idx_table.specs.Table.{table_bytes}
use Rattle.idx_layout.specs.Files.{row_count}
use Rattle.idx_layout.specs.OfHeader.{placing_of}
use Rattle.idx_layout.specs.Placing.{Placing}
use Rattle.idx_check.specs.Piece.{IsOnTheWay}
use Rattle.idx_check.proofs.PieceLemmas.{asked_begins, asked_ends, asked_nothing, way_ends}
use Rattle.idx_check.specs.Pieces.{ReadsOn, read_to}
use Rattle.idx_check.proofs.PiecesLemmas.{reads_both, reads_wider}
use Rattle.idx_check.proofs.TableLemmas.{agrees_to, front_agrees, front_differs, if_none, if_some, looked_all, looked_first, looked_next, looked_within, row_agrees, row_differs}
use Rattle.idx_check.proofs.table.wrong_in_table.Goals as goal

pub returns-in-Some-clause-found : goal.returns-in-Some-clause-found
returns-in-Some-clause-found g c =
    let l : Placing = placing_of c.args.header.now in
    front_differs (g.L.Leaf.contents c.args.leaf.now) l c.args.file c.in-Some.place (table_bytes (row_count l)) c.in_ok-place.field-0 c.in-Some.is (omega arith)
    c.in_ok-place.ensures.found

pub loop-row-init : goal.loop-row-init
loop-row-init g c =
    let l : Placing = placing_of c.args.header.now in
    record {
      looked = looked_first l c.args.file c.into_iter-row-iterator.result (c.into_iter-row-iterator.ensures.into_iter_gives ∙ c.file_rows-row-items.ensures.rows);
      agree = front_agrees (g.L.Leaf.contents c.args.leaf.now) l c.args.file c.in_ok-place.field-0 c.in_default.is c.in_ok-place.ensures.found;
      way = subst (λ (n : ℕ). IsOnTheWay (g.L.Leaf.contents c.args.leaf.now) c.wrong_in_row.new.piece.bytes.items c.wrong_in_row.new.piece.used 40 40 (n - 40)) c.table_len.ensures.value
          (if_none c.in_ok-place.field-0 c.in_default.is c.in_ok-place.ensures.way);
      asked = if_none c.in_ok-place.field-0 c.in_default.is (c.in_ok-place.ensures.asked (g.R.Reader.asked c.args.reader.now)
          (asked_begins (g.R.Reader.asked c.args.reader.now) (g.R.Reader.asked c.args.reader.now) c.args.piece.now.bytes.items c.args.piece.now.used 0 c.args.there c.requires.fresh (asked_nothing (g.R.Reader.asked c.args.reader.now) c.args.there)));
      pieces = reads_wider (g.R.Reader.reads c.args.reader.now) (g.R.Reader.reads c.wrong_in_row.new.reader) (g.R.Reader.asked c.args.reader.now) (g.R.Reader.asked c.wrong_in_row.new.reader)
          (read_to 0 c.args.piece.now.bytes.items c.args.piece.now.used) (read_to 40 c.wrong_in_row.new.piece.bytes.items c.wrong_in_row.new.piece.used)
          0 (read_to 40 c.wrong_in_row.new.piece.bytes.items c.wrong_in_row.new.piece.used) (omega (arith, c.requires.fresh))
          (if_none c.in_ok-place.field-0 c.in_default.is c.in_ok-place.ensures.pieces);
      quiet = c.in_ok-place.ensures.quiet;
    }

pub wrong_in_row-requires-in-loop-row-clause-more :
    goal.wrong_in_row-requires-in-loop-row-clause-more
wrong_in_row-requires-in-loop-row-clause-more g c =
    let l : Placing = placing_of c.args.header.now in
    let within = looked_within l c.args.file c.loop-row.row-iterator c.next.new.self c.in-Some-row.row c.loop-row.at c.loop-row.invariant.looked c.in-Some-row.ensures.steps in
    omega (arith, within, c.table_len.ensures.value)

pub wrong_in_row-requires-in-loop-row-clause-way :
    goal.wrong_in_row-requires-in-loop-row-clause-way
wrong_in_row-requires-in-loop-row-clause-way g c =
    subst (λ (n : ℕ). IsOnTheWay (g.L.Leaf.contents c.args.leaf.now) c.loop-row.piece.bytes.items c.loop-row.piece.used 40 c.loop-row.at (n - c.loop-row.at)) (sym c.table_len.ensures.value) c.loop-row.invariant.way

pub returns-in-Some-2-clause-found : goal.returns-in-Some-2-clause-found
returns-in-Some-2-clause-found g c =
    let l : Placing = placing_of c.args.header.now in
    let before = c.loop-row.invariant in
    row_differs l c.args.file c.loop-row.row-iterator c.next.new.self c.in-Some-row.row c.loop-row.at before.looked c.in-Some-row.ensures.steps (g.L.Leaf.contents c.args.leaf.now) c.in-Some-2.place (table_bytes (row_count l))
    c.in_ok-place-2.field-0 c.in-Some-2.is (looked_within l c.args.file c.loop-row.row-iterator c.next.new.self c.in-Some-row.row c.loop-row.at before.looked c.in-Some-row.ensures.steps)
    before.agree c.in_ok-place-2.ensures.found

pub overflow_add-at : goal.overflow_add-at
overflow_add-at g c =
    let l : Placing = placing_of c.args.header.now in
    let within = looked_within l c.args.file c.loop-row.row-iterator c.next.new.self c.in-Some-row.row c.loop-row.at c.loop-row.invariant.looked c.in-Some-row.ensures.steps in
    omega (arith, within, c.table_len.ensures.value, c.table_len.ensures.few)

pub loop-row-preserved : goal.loop-row-preserved
loop-row-preserved g c =
    let l : Placing = placing_of c.args.header.now in
    let before = c.loop-row.invariant in
    let first = c.in-Some-row.ensures.steps in
    record {
      looked = looked_next l c.args.file c.loop-row.row-iterator c.next.new.self c.in-Some-row.row c.loop-row.at before.looked first;
      agree = row_agrees l c.args.file c.loop-row.row-iterator c.next.new.self c.in-Some-row.row c.loop-row.at before.looked first (g.L.Leaf.contents c.args.leaf.now) c.in_ok-place-2.field-0 c.in_default-2.is before.agree c.in_ok-place-2.ensures.found;
      way = subst (λ (n : ℕ). IsOnTheWay (g.L.Leaf.contents c.args.leaf.now) c.wrong_in_row-in-loop-row.new.piece.bytes.items c.wrong_in_row-in-loop-row.new.piece.used 40 (c.loop-row.at + 40) (n - (c.loop-row.at + 40))) c.table_len.ensures.value
          (if_none c.in_ok-place-2.field-0 c.in_default-2.is c.in_ok-place-2.ensures.way);
      asked = if_none c.in_ok-place-2.field-0 c.in_default-2.is (c.in_ok-place-2.ensures.asked (g.R.Reader.asked c.args.reader.now) before.asked);
      pieces = reads_both (g.R.Reader.reads c.args.reader.now) (g.R.Reader.reads c.loop-row.reader) (g.R.Reader.reads c.wrong_in_row-in-loop-row.new.reader)
          (g.R.Reader.asked c.args.reader.now) (g.R.Reader.asked c.loop-row.reader) (g.R.Reader.asked c.wrong_in_row-in-loop-row.new.reader)
          0 (read_to c.loop-row.at c.loop-row.piece.bytes.items c.loop-row.piece.used) (read_to (c.loop-row.at + 40) c.wrong_in_row-in-loop-row.new.piece.bytes.items c.wrong_in_row-in-loop-row.new.piece.used)
          before.pieces (if_none c.in_ok-place-2.field-0 c.in_default-2.is c.in_ok-place-2.ensures.pieces);
      quiet = c.in_ok-place-2.ensures.quiet ∙ before.quiet;
    }

pub returns-clause-found : goal.returns-clause-found
returns-clause-found g c =
    let l : Placing = placing_of c.args.header.now in
    agrees_to (g.L.Leaf.contents c.args.leaf.now) l c.args.file 0 c.loop-row.at (table_bytes (row_count l))
    (looked_all l c.args.file c.loop-row.row-iterator c.loop-row.at c.loop-row.invariant.looked c.in-None.ensures.steps.0) c.loop-row.invariant.agree

pub returns-clause-fresh : goal.returns-clause-fresh
returns-clause-fresh g c =
    let l : Placing = placing_of c.args.header.now in
    let all = looked_all l c.args.file c.loop-row.row-iterator c.loop-row.at c.loop-row.invariant.looked c.in-None.ensures.steps.0 in
    way_ends (g.L.Leaf.contents c.args.leaf.now) c.loop-row.piece.bytes.items c.loop-row.piece.used 40 c.loop-row.at (table_bytes (row_count l) - c.loop-row.at) c.loop-row.invariant.way (omega (arith, all))

pub returns-clause-asked : goal.returns-clause-asked
returns-clause-asked g c =
    let l : Placing = placing_of c.args.header.now in
    let all = looked_all l c.args.file c.loop-row.row-iterator c.loop-row.at c.loop-row.invariant.looked c.in-None.ensures.steps.0 in
    let fresh = way_ends (g.L.Leaf.contents c.args.leaf.now) c.loop-row.piece.bytes.items c.loop-row.piece.used 40 c.loop-row.at (table_bytes (row_count l) - c.loop-row.at) c.loop-row.invariant.way (omega (arith, all)) in
    subst (λ (n : ℕ). AskedFor (g.R.Reader.asked c.args.reader.now) (g.R.Reader.asked c.loop-row.reader) (min n c.args.there)) all
    (asked_ends (g.R.Reader.asked c.args.reader.now) (g.R.Reader.asked c.loop-row.reader) c.loop-row.piece.bytes.items c.loop-row.piece.used c.loop-row.at c.args.there fresh c.loop-row.invariant.asked)

pub returns-clause-pieces : goal.returns-clause-pieces
returns-clause-pieces g c =
    let l : Placing = placing_of c.args.header.now in
    let reads = g.R.Reader.reads in
    let asked = g.R.Reader.asked in
    let all = looked_all l c.args.file c.loop-row.row-iterator c.loop-row.at c.loop-row.invariant.looked c.in-None.ensures.steps.0 in
    let fresh = way_ends (g.L.Leaf.contents c.args.leaf.now) c.loop-row.piece.bytes.items c.loop-row.piece.used 40 c.loop-row.at (table_bytes (row_count l) - c.loop-row.at) c.loop-row.invariant.way (omega (arith, all)) in
    reads_wider (reads c.args.reader.now) (reads c.loop-row.reader) (asked c.args.reader.now) (asked c.loop-row.reader) 0 (read_to c.loop-row.at c.loop-row.piece.bytes.items c.loop-row.piece.used) 0 (table_bytes (row_count l))
    (omega (arith, all, fresh)) c.loop-row.invariant.pieces

pub returns-in-Some-clause-pieces : goal.returns-in-Some-clause-pieces
returns-in-Some-clause-pieces g c =
    let reads = g.R.Reader.reads in
    let asked = g.R.Reader.asked in
    let before : ℕ = read_to 0 c.args.piece.now.bytes.items c.args.piece.now.used in
    reads_wider (reads c.args.reader.now) (reads c.wrong_in_row.new.reader) (asked c.args.reader.now) (asked c.wrong_in_row.new.reader) before c.table_len.result 0 (table_bytes (row_count (placing_of c.args.header.now)))
    (omega (arith, c.requires.fresh, c.table_len.ensures.value))
    (if_some c.in_ok-place.field-0 c.in-Some.place (λ _. ReadsOn reads asked c.args.reader.now c.wrong_in_row.new.reader before c.table_len.result) c.in-Some.is c.in_ok-place.ensures.ended)

pub returns-in-Some-2-clause-pieces : goal.returns-in-Some-2-clause-pieces
returns-in-Some-2-clause-pieces g c =
    let reads = g.R.Reader.reads in
    let asked = g.R.Reader.asked in
    let before : ℕ = read_to c.loop-row.at c.loop-row.piece.bytes.items c.loop-row.piece.used in
    let after = c.wrong_in_row-in-loop-row.new.reader in
    subst (λ (n : ℕ). ReadsOn reads asked c.args.reader.now after 0 n) c.table_len.ensures.value
    (reads_both (reads c.args.reader.now) (reads c.loop-row.reader) (reads after) (asked c.args.reader.now) (asked c.loop-row.reader) (asked after)
    0 before c.table_len.result c.loop-row.invariant.pieces
    (if_some c.in_ok-place-2.field-0 c.in-Some-2.place (λ _. ReadsOn reads asked c.loop-row.reader after before c.table_len.result) c.in-Some-2.is c.in_ok-place-2.ensures.ended))
