use Rattle.std.proofs.Common.{◌*◌, ◌≤◌, arith}
use Rattle.std.proofs.Math.Nat.{mul-le-mul}
use Rattle.idx_edition.proofs.lengths.row_count.Goals as goal

pub overflow_mul-result : goal.overflow_mul-result
overflow_mul-result c =
    let fields : c.from.result ≤ 64 = omega (arith, c.field_count.ensures.few, c.from.ensures) in
    let rows : c.from.result * c.blocks_per_file.result ≤ 64 * 65536 = mul-le-mul fields c.blocks_per_file.ensures.few in
    omega (arith, rows)

pub returns-clause-few : goal.returns-clause-few
returns-clause-few c =
    let fields : c.from.result ≤ 64 = omega (arith, c.field_count.ensures.few, c.from.ensures) in
    let rows : c.from.result * c.blocks_per_file.result ≤ 64 * 65536 = mul-le-mul fields c.blocks_per_file.ensures.few in
    omega (arith, rows)
