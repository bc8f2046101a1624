use Rattle.std.proofs.Common.{rules}
use Rattle.std.proofs.Math.Nat.{mul-le-mul_right}
use Rattle.idx_scatter.proofs.side.before_in_row.Goals as goal

pub overflow_add-result : goal.overflow_add-result
overflow_add-result c =
    let less = mul-le-mul_right c.args.rows.now.count c.requires.sane.whole in
    search rules
