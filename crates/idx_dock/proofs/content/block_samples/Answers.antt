use Rattle.std.proofs.Common.{◌≤◌, ◌^◌, sym, subst, arith}
use Rattle.std.proofs.Math.Pow.{pow_mono}
use Rattle.idx_layout.proofs.PresentLemmas.{shifted}
use Rattle.idx_dock.proofs.content.block_samples.Goals as goal

pub returns-clause-few : goal.returns-clause-few
returns-clause-few c =
    let power : 2 ^ c.bits_per_block.result ≤ 2 ^ 20 = pow_mono c.bits_per_block.ensures.few in
    subst (λ n. n ≤ 2 ^ 20) (sym (shifted c.bits_per_block.result (omega (arith, c.bits_per_block.ensures.few)))) power
