use Rattle.std.proofs.Common.{◌*◌, ◌^◌, ◌≤◌, length, ap, arith}
use Rattle.std.proofs.Math.Pow.{pow_mono}
use Rattle.idx_ship.proofs.CutLemmas.{block_fits}
use Rattle.idx_ship.proofs.run.run_over.Goals as goal

pub overflow_mul-result : goal.overflow_mul-result
overflow_mul-result c =
    let most : 2 ^ length c.args.mask.now ≤ 2 ^ 40 = pow_mono c.requires.mask.few in
    let fits = block_fits (length c.args.mask.now) c.args.span.now.bits c.args.span.now.number c.requires.span.within c.requires.span.exists in
    omega (arith, most, fits, ap (λ m. c.args.span.now.number * m) c.len-count.ensures.value)
