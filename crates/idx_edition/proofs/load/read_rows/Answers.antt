use Rattle.std.proofs.Common.{◌≡◌, ◌*◌, ◌%◌, ◌≤◌, List, length, Some, sym, ap, subst, ◌∙◌, arith}
use Rattle.std.specs.Prelude.{IfSome}
use Rattle.std.specs.Option.{ForSome}
use Rattle.std.proofs.Math.Nat.{mul-mod_right}
use Rattle.std.proofs.lemmas.List.{length-map}
use Rattle.std.proofs.lemmas.List.FromFn.{length-map-range_with_len}
use Rattle.idx_fields.specs.Field.{sample_bytes}
use Rattle.idx_table.specs.Table.{rows_of}
use Rattle.idx_table.specs.declared.row.Row.{Row}
use Rattle.idx_layout.specs.Placing.{block_bytes}
use Rattle.idx_layout.specs.Files.{row_count}
use Rattle.idx_layout.specs.OfHeader.{placing_of}
use Rattle.idx_edition.specs.Stored.{fault_of_bytes}
use Rattle.idx_edition.specs.Tables.{EndWithin, IsTable}
use Rattle.idx_edition.proofs.LoadLemmas.{IsFront, front_of, cause-table, front-rows, front-sound, front-bad, front-table, front-ends}
use Rattle.idx_edition.proofs.load.read_rows.Goals as goal

pub read-requires-clause-fields : goal.read-requires-clause-fields
read-requires-clause-fields g c =
    let h = c.args.header.now in
    let l = placing_of h in
    let count : length c.args.lengths.now.items ≡ length h.fields = ap length c.requires ∙ length-map-range_with_len (block_bytes l) 0 (length l.sizes) ∙ length-map h.fields sample_bytes in
    subst (λ n. 1 ≤ n) (sym count) c.row_count.ensures.fields

pub read-requires-clause-whole : goal.read-requires-clause-whole
read-requires-clause-whole g c =
    let h = c.args.header.now in
    let l = placing_of h in
    let count : length c.args.lengths.now.items ≡ length h.fields = ap length c.requires ∙ length-map-range_with_len (block_bytes l) 0 (length l.sizes) ∙ length-map h.fields sample_bytes in
    ap (λ n. n % length c.args.lengths.now.items) (c.row_count.ensures.value ∙ ap (λ n. n * h.blocks_per_file) (sym count))
    ∙ mul-mod_right (length c.args.lengths.now.items) h.blocks_per_file

pub returns-in_ok-of_table-in-Ok-clause-rows : goal.returns-in_ok-of_table-in-Ok-clause-rows
returns-in_ok-of_table-in-Ok-clause-rows g c =
    let l = placing_of c.args.header.now in
    let is : IsFront (g.L.Leaf.contents c.args.leaf.now) c.deref.result.now l c.row_count.result c.len-len.result c.min.result c.args.lengths.now.items =
    front_of c.args.header.now (g.L.Leaf.contents c.args.leaf.now) c.deref.result.now c.read_front.new.front.items c.row_count.result c.len-len.result c.min.result c.table_len.result c.args.lengths.now.items
    c.row_count.ensures.value c.row_count.ensures.fields c.row_count.ensures.places c.requires c.table_len.ensures.value c.min.ensures c.len-len.ensures c.in_ok-read_front.ensures.bytes c.deref.ensures.value in
    let same : c.in_ok-of_table-in-Ok.field-0 ≡ rows_of c.deref.result.now c.row_count.result = c.in_ok-of_table-in-Ok.ensures ∙ c.in-Ok.ensures.ok.0 in
    subst (λ (rows : List Row). IfSome (g.L.Leaf.contents c.args.leaf.now) (λ bytes. rows ≡ rows_of bytes (row_count l))) (sym same) (front-rows c.deref.result.now l c.row_count.result c.len-len.result c.min.result c.args.lengths.now.items (g.L.Leaf.contents c.args.leaf.now) is c.in-Ok.ensures.ok.1)

pub returns-in_ok-of_table-in-Ok-clause-sound : goal.returns-in_ok-of_table-in-Ok-clause-sound
returns-in_ok-of_table-in-Ok-clause-sound g c =
    let l = placing_of c.args.header.now in
    let is : IsFront (g.L.Leaf.contents c.args.leaf.now) c.deref.result.now l c.row_count.result c.len-len.result c.min.result c.args.lengths.now.items =
    front_of c.args.header.now (g.L.Leaf.contents c.args.leaf.now) c.deref.result.now c.read_front.new.front.items c.row_count.result c.len-len.result c.min.result c.table_len.result c.args.lengths.now.items
    c.row_count.ensures.value c.row_count.ensures.fields c.row_count.ensures.places c.requires c.table_len.ensures.value c.min.ensures c.len-len.ensures c.in_ok-read_front.ensures.bytes c.deref.ensures.value in
    front-sound c.deref.result.now l c.row_count.result c.len-len.result c.min.result c.args.lengths.now.items (g.L.Leaf.contents c.args.leaf.now) c.args.file is c.in-Ok.ensures.ok.1

pub returns-in_ok-of_table-in-Ok-clause-table : goal.returns-in_ok-of_table-in-Ok-clause-table
returns-in_ok-of_table-in-Ok-clause-table g c =
    let l = placing_of c.args.header.now in
    let is : IsFront (g.L.Leaf.contents c.args.leaf.now) c.deref.result.now l c.row_count.result c.len-len.result c.min.result c.args.lengths.now.items =
    front_of c.args.header.now (g.L.Leaf.contents c.args.leaf.now) c.deref.result.now c.read_front.new.front.items c.row_count.result c.len-len.result c.min.result c.table_len.result c.args.lengths.now.items
    c.row_count.ensures.value c.row_count.ensures.fields c.row_count.ensures.places c.requires c.table_len.ensures.value c.min.ensures c.len-len.ensures c.in_ok-read_front.ensures.bytes c.deref.ensures.value in
    let same : c.in_ok-of_table-in-Ok.field-0 ≡ rows_of c.deref.result.now c.row_count.result = c.in_ok-of_table-in-Ok.ensures ∙ c.in-Ok.ensures.ok.0 in
    subst (IsTable c.args.lengths.now.items l.per_file) (sym same) (front-table c.deref.result.now l c.row_count.result c.len-len.result c.min.result c.args.lengths.now.items (g.L.Leaf.contents c.args.leaf.now) is c.in-Ok.ensures.ok.1)

pub returns-in_ok-of_table-in-Ok-clause-ends : goal.returns-in_ok-of_table-in-Ok-clause-ends
returns-in_ok-of_table-in-Ok-clause-ends g c =
    let l = placing_of c.args.header.now in
    let is : IsFront (g.L.Leaf.contents c.args.leaf.now) c.deref.result.now l c.row_count.result c.len-len.result c.min.result c.args.lengths.now.items =
    front_of c.args.header.now (g.L.Leaf.contents c.args.leaf.now) c.deref.result.now c.read_front.new.front.items c.row_count.result c.len-len.result c.min.result c.table_len.result c.args.lengths.now.items
    c.row_count.ensures.value c.row_count.ensures.fields c.row_count.ensures.places c.requires c.table_len.ensures.value c.min.ensures c.len-len.ensures c.in_ok-read_front.ensures.bytes c.deref.ensures.value in
    let same : c.in_ok-of_table-in-Ok.field-0 ≡ rows_of c.deref.result.now c.row_count.result = c.in_ok-of_table-in-Ok.ensures ∙ c.in-Ok.ensures.ok.0 in
    subst (λ (rows : List Row). ForSome (g.L.Leaf.contents c.args.leaf.now) (λ bytes. EndWithin rows (length bytes))) (sym same) (front-ends c.deref.result.now l c.row_count.result c.len-len.result c.min.result c.args.lengths.now.items (g.L.Leaf.contents c.args.leaf.now) is c.in-Ok.ensures.ok.1)

pub returns-in-Err-clause-cause : goal.returns-in-Err-clause-cause
returns-in-Err-clause-cause g c =
    let l = placing_of c.args.header.now in
    let is : IsFront (g.L.Leaf.contents c.args.leaf.now) c.deref.result.now l c.row_count.result c.len-len.result c.min.result c.args.lengths.now.items =
    front_of c.args.header.now (g.L.Leaf.contents c.args.leaf.now) c.deref.result.now c.read_front.new.front.items c.row_count.result c.len-len.result c.min.result c.table_len.result c.args.lengths.now.items
    c.row_count.ensures.value c.row_count.ensures.fields c.row_count.ensures.places c.requires c.table_len.ensures.value c.min.ensures c.len-len.ensures c.in_ok-read_front.ensures.bytes c.deref.ensures.value in
    cause-table (λ bad. IfSome (g.L.Leaf.contents c.args.leaf.now) (λ bytes. fault_of_bytes l c.args.file (Some bytes) ≡ Some bad)) c.args.file c.in-Err.fault c.of_table-in-Err.result
    (g.R.Reader.faults c.args.reader.now) (g.R.Reader.faults c.read_front.new.reader) c.of_table-in-Err.ensures.memory c.of_table-in-Err.ensures.table
    (λ other. front-bad c.deref.result.now l c.row_count.result c.len-len.result c.min.result c.args.lengths.now.items (g.L.Leaf.contents c.args.leaf.now) c.args.file c.in-Err.fault is (c.in-Err.ensures.fault other))
    c.in_ok-read_front.ensures.quiet

pub returns-in_ok-of_table-in-Ok-clause-asked : goal.returns-in_ok-of_table-in-Ok-clause-asked
returns-in_ok-of_table-in-Ok-clause-asked g c = record {
  bytes = c.min.result;
  few = omega (arith, c.min.ensures, c.table_len.ensures.value);
  asked = c.in_ok-read_front.ensures.asked;
}
