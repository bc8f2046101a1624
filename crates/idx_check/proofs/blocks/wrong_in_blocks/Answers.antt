use Rattle.std.proofs.Common.{◌≡◌, ℕ, ◌+◌, ◌*◌, ◌<◌, min, length, refl, sym, ap, ◌∙◌, subst, arith}
use Rattle.idx_outside.specs.Cause.{AskedFor}
use Rattle.idx_table.specs.Table.{table_bytes}
use Rattle.idx_layout.specs.Files.{length_of_file, row_count}
use Rattle.idx_layout.specs.OfHeader.{placing_of}
use Rattle.idx_layout.specs.Placing.{block_bytes}
use Rattle.idx_layout.proofs.HeaderLemmas.{same_bytes}
use Rattle.idx_check.proofs.FieldLemmas.{agrees_nowhere, all_fields, begins_at, field_agrees, field_differs, field_ends, next_begins, none_of}
use Rattle.idx_check.specs.Pieces.{ReadsOn}
use Rattle.idx_check.proofs.PiecesLemmas.{reads_both, reads_none, reads_wider}
use Rattle.idx_check.proofs.TableLemmas.{agrees_to, if_none}
use Rattle.idx_check.proofs.blocks.wrong_in_blocks.Goals as goal

pub loop-field-init : goal.loop-field-init
loop-field-init g c =
    record {
      begins = c.table_len-at.ensures.value ∙ omega arith;
      agree = agrees_to (g.L.Leaf.contents c.args.leaf.now) (placing_of c.args.header.now) c.args.file (table_bytes (row_count (placing_of c.args.header.now))) (table_bytes (row_count (placing_of c.args.header.now))) c.table_len-at.result
          (sym c.table_len-at.ensures.value) (agrees_nowhere (g.L.Leaf.contents c.args.leaf.now) (placing_of c.args.header.now) c.args.file (table_bytes (row_count (placing_of c.args.header.now))));
      fresh = c.requires.fresh;
      pieces = reads_none (g.R.Reader.reads c.args.reader.now) (g.R.Reader.reads c.args.reader.now) (g.R.Reader.asked c.args.reader.now) (g.R.Reader.asked c.args.reader.now)
          (table_bytes (row_count (placing_of c.args.header.now))) c.table_len-at.result refl refl (omega (arith, c.table_len-at.ensures.value));
      asked = λ before is. subst (λ (n : ℕ). AskedFor before (g.R.Reader.asked c.args.reader.now) (min n c.args.there)) (sym c.table_len-at.ensures.value) is;
      quiet = refl;
    }

pub overflow_add-end : goal.overflow_add-end
overflow_add-end g c =
    let l = placing_of c.args.header.now in
    let within : c.loop-field.field < length c.args.header.now.fields = omega (arith, c.loop-field-test.true, c.field_count-field-end.ensures.count) in
    let bytes : c.block_bytes.result ≡ block_bytes l c.loop-field.field = c.block_bytes.ensures.value ∙ sym (same_bytes c.args.header.now c.loop-field.field within) in
    let ends = field_ends c.args.header.now c.args.file c.loop-field.field c.loop-field.at c.block_bytes.result c.present_in_file-present.result c.present_in_file-present.ensures.valid within
    c.loop-field.invariant.begins bytes c.present_in_file-present.ensures.value in
    omega (arith, ends.0, ends.1)

pub wrong_in_field-requires-clause-begins : goal.wrong_in_field-requires-clause-begins
wrong_in_field-requires-clause-begins g c = c.loop-field.invariant.begins

pub wrong_in_field-requires-clause-fresh : goal.wrong_in_field-requires-clause-fresh
wrong_in_field-requires-clause-fresh g c = c.loop-field.invariant.fresh

pub returns-then-is_some-clause-found : goal.returns-then-is_some-clause-found
returns-then-is_some-clause-found g c =
    let l = placing_of c.args.header.now in
    let within : c.loop-field.field < length c.args.header.now.fields = omega (arith, c.loop-field-test.true, c.field_count-field-end.ensures.count) in
    let bytes : c.block_bytes.result ≡ block_bytes l c.loop-field.field = c.block_bytes.ensures.value ∙ sym (same_bytes c.args.header.now c.loop-field.field within) in
    let ends = field_ends c.args.header.now c.args.file c.loop-field.field c.loop-field.at c.block_bytes.result c.present_in_file-present.result c.present_in_file-present.ensures.valid within
    c.loop-field.invariant.begins bytes c.present_in_file-present.ensures.value in
    field_differs (g.L.Leaf.contents c.args.leaf.now) l c.args.file (table_bytes (row_count l)) c.loop-field.at (c.loop-field.at + c.block_bytes.result * c.present_in_file-present.result) (length_of_file l c.args.file)
    c.in_ok-found.found (omega (arith, c.loop-field.invariant.begins)) ends.0 (sym c.is_some.ensures ∙ c.if-is_some.true) c.loop-field.invariant.agree c.in_ok-found.ensures.found

pub returns-then-is_some-clause-pieces : goal.returns-then-is_some-clause-pieces
returns-then-is_some-clause-pieces g c =
    let l = placing_of c.args.header.now in
    let reads = g.R.Reader.reads in
    let asked = g.R.Reader.asked in
    let within : c.loop-field.field < length c.args.header.now.fields = omega (arith, c.loop-field-test.true, c.field_count-field-end.ensures.count) in
    let bytes : c.block_bytes.result ≡ block_bytes l c.loop-field.field = c.block_bytes.ensures.value ∙ sym (same_bytes c.args.header.now c.loop-field.field within) in
    let ends = field_ends c.args.header.now c.args.file c.loop-field.field c.loop-field.at c.block_bytes.result c.present_in_file-present.result c.present_in_file-present.ensures.valid within
    c.loop-field.invariant.begins bytes c.present_in_file-present.ensures.value in
    reads_both (reads c.args.reader.now) (reads c.loop-field.reader) (reads c.wrong_in_field.new.reader) (asked c.args.reader.now) (asked c.loop-field.reader) (asked c.wrong_in_field.new.reader)
    (table_bytes (row_count l)) c.loop-field.at (length_of_file l c.args.file) c.loop-field.invariant.pieces
    (reads_wider (reads c.loop-field.reader) (reads c.wrong_in_field.new.reader) (asked c.loop-field.reader) (asked c.wrong_in_field.new.reader)
    c.loop-field.at (c.loop-field.at + c.block_bytes.result * c.present_in_file-present.result) c.loop-field.at (length_of_file l c.args.file) (omega (arith, ends.0)) c.in_ok-found.ensures.pieces)

pub returns-clause-pieces : goal.returns-clause-pieces
returns-clause-pieces g c =
    let all = all_fields c.args.header.now c.args.file c.loop-field.field c.loop-field.at c.loop-field.invariant.begins (omega (arith, c.loop-field-test.false, c.loop-field.auto.field-end, c.field_count-field-end.ensures.count)) in
    subst (λ (n : ℕ). ReadsOn g.R.Reader.reads g.R.Reader.asked c.args.reader.now c.loop-field.reader (table_bytes (row_count (placing_of c.args.header.now))) n) all c.loop-field.invariant.pieces

pub loop-field-preserved : goal.loop-field-preserved
loop-field-preserved g c =
    let l = placing_of c.args.header.now in
    let within : c.loop-field.field < length c.args.header.now.fields = omega (arith, c.loop-field-test.true, c.field_count-field-end.ensures.count) in
    let bytes : c.block_bytes.result ≡ block_bytes l c.loop-field.field = c.block_bytes.ensures.value ∙ sym (same_bytes c.args.header.now c.loop-field.field within) in
    let ends = field_ends c.args.header.now c.args.file c.loop-field.field c.loop-field.at c.block_bytes.result c.present_in_file-present.result c.present_in_file-present.ensures.valid within
    c.loop-field.invariant.begins bytes c.present_in_file-present.ensures.value in
    let none = none_of c.in_ok-found.found (sym c.is_some.ensures ∙ c.if-is_some.false) in
    let next : c.loop-field.at + c.block_bytes.result * c.present_in_file-present.result ≡ begins_at l c.args.file (c.loop-field.field + 1) =
    ap (λ m. c.loop-field.at + c.block_bytes.result * m) c.present_in_file-present.ensures.value ∙ next_begins l c.args.file c.loop-field.field c.loop-field.at c.block_bytes.result c.loop-field.invariant.begins bytes in
    record {
      begins = next;
      agree = field_agrees (g.L.Leaf.contents c.args.leaf.now) l c.args.file (table_bytes (row_count l)) c.loop-field.at (c.loop-field.at + c.block_bytes.result * c.present_in_file-present.result) c.in_ok-found.found none
          c.loop-field.invariant.agree c.in_ok-found.ensures.found;
      fresh = if_none c.in_ok-found.found none c.in_ok-found.ensures.fresh;
      pieces = reads_both (g.R.Reader.reads c.args.reader.now) (g.R.Reader.reads c.loop-field.reader) (g.R.Reader.reads c.wrong_in_field.new.reader)
          (g.R.Reader.asked c.args.reader.now) (g.R.Reader.asked c.loop-field.reader) (g.R.Reader.asked c.wrong_in_field.new.reader)
          (table_bytes (row_count l)) c.loop-field.at (c.loop-field.at + c.block_bytes.result * c.present_in_file-present.result) c.loop-field.invariant.pieces c.in_ok-found.ensures.pieces;
      asked = λ before is. if_none c.in_ok-found.found none (c.in_ok-found.ensures.asked before (c.loop-field.invariant.asked before is));
      quiet = c.in_ok-found.ensures.quiet ∙ c.loop-field.invariant.quiet;
    }

pub returns-clause-found : goal.returns-clause-found
returns-clause-found g c =
    let all = all_fields c.args.header.now c.args.file c.loop-field.field c.loop-field.at c.loop-field.invariant.begins (omega (arith, c.loop-field-test.false, c.loop-field.auto.field-end, c.field_count-field-end.ensures.count)) in
    agrees_to (g.L.Leaf.contents c.args.leaf.now) (placing_of c.args.header.now) c.args.file (table_bytes (row_count (placing_of c.args.header.now))) c.loop-field.at (length_of_file (placing_of c.args.header.now) c.args.file) all c.loop-field.invariant.agree

pub returns-clause-asked : goal.returns-clause-asked
returns-clause-asked g c =
    let all = all_fields c.args.header.now c.args.file c.loop-field.field c.loop-field.at c.loop-field.invariant.begins (omega (arith, c.loop-field-test.false, c.loop-field.auto.field-end, c.field_count-field-end.ensures.count)) in
    λ before is. subst (λ (n : ℕ). AskedFor before (g.R.Reader.asked c.loop-field.reader) (min n c.args.there)) all (c.loop-field.invariant.asked before is)
