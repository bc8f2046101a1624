use Rattle.std.proofs.Common.{◌*◌, ap, arith}
use Rattle.idx_check.proofs.NatLemmas.{fits_in}
use Rattle.idx_check.proofs.blocks.run_of.Goals as goal

pub returns-clause-few : goal.returns-clause-few
returns-clause-few c =
    let fits = fits_in 65536 c.sample_bytes-size.result c.ilog2.result c.min-bits.result c.sample_bytes-size.ensures.some c.ilog2.ensures.power_le (omega (arith, c.min-bits.ensures)) in
    omega (arith, fits, ap (λ n. c.sample_bytes-size.result * n) c.address_count.ensures.value)
