use Rattle.std.proofs.Common.{◌^◌, ◌≤◌, arith}
use Rattle.std.proofs.Math.Pow.{pow_mono}
use Rattle.idx_layout.proofs.PresentLemmas.{shifted}
use Rattle.idx_ship.proofs.span.Span.len.Goals as goal

pub returns-clause-value : goal.returns-clause-value
returns-clause-value c = shifted c.args.self.now.bits (omega (arith, c.requires))

pub returns-clause-few : goal.returns-clause-few
returns-clause-few c =
    let power : 2 ^ c.args.self.now.bits ≤ 2 ^ 20 = pow_mono c.requires in
    omega (arith, power, shifted c.args.self.now.bits (omega (arith, c.requires)))
