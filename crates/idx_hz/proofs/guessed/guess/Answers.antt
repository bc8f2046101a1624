use Rattle.std.proofs.Common.{◌≡◌}
use Rattle.idx_hz.specs.Guess.{guessed_mask}
use Rattle.idx_hz.proofs.GuessLemmas.{HasAddress-guessed_mask}
use Rattle.idx_hz.proofs.guessed.guess.Goals as goal

pub returns-clause-holds : goal.returns-clause-holds
returns-clause-holds c p inside =
    let mask : c.mask_of_bits.result ≡ guessed_mask c.args.region.now = cc in
    rw mask (HasAddress-guessed_mask c.args.region.now p c.axes.ensures.valid inside)
