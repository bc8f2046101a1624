use Rattle.std.proofs.Common.{◌^◌, ◌≤◌, arith}
use Rattle.std.proofs.Math.Pow.{pow_mono}
use Rattle.idx_layout.proofs.PresentLemmas.{shifted}
use Rattle.idx_check.proofs.stray.address_count.Goals as goal

pub returns-clause-few : goal.returns-clause-few
returns-clause-few c =
    let power : 2 ^ c.args.bits ≤ 2 ^ 20 = pow_mono c.requires in
    omega (arith, power, shifted c.args.bits (omega (arith, c.requires)))
