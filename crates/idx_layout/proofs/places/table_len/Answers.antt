use Rattle.std.proofs.Common.{◌*◌, ◌≤◌, length, map, ap, ◌∙◌, sym, arith}
use Rattle.std.proofs.Math.Nat.{mul-le-mul}
use Rattle.std.proofs.lemmas.List.{length-map}
use Rattle.idx_fields.specs.Field.{sample_bytes}
use Rattle.idx_table.specs.Table.{table_bytes}
use Rattle.idx_layout.proofs.places.table_len.Goals as goal

pub table_bytes-requires : goal.table_bytes-requires
table_bytes-requires c =
    let fields : c.from.result ≤ 64 = omega (arith, c.field_count.ensures.few, c.from.ensures) in
    let rows : c.from.result * c.blocks_per_file.result ≤ 64 * 65536 = mul-le-mul fields c.blocks_per_file.ensures.few in
    omega (arith, rows)

pub returns-clause-few : goal.returns-clause-few
returns-clause-few c =
    let fields : c.from.result ≤ 64 = omega (arith, c.field_count.ensures.few, c.from.ensures) in
    let rows : c.from.result * c.blocks_per_file.result ≤ 64 * 65536 = mul-le-mul fields c.blocks_per_file.ensures.few in
    omega (arith, rows, c.table_bytes.ensures)

pub returns-clause-value : goal.returns-clause-value
returns-clause-value c =
    let h = c.args.header.now in
    let fields = c.from.ensures ∙ c.field_count.ensures.count ∙ sym (length-map h.fields sample_bytes) in
    c.table_bytes.ensures ∙ ap (λ n. table_bytes (n * c.blocks_per_file.result)) fields
    ∙ ap (λ n. table_bytes (length (map sample_bytes h.fields) * n)) c.blocks_per_file.ensures.value
