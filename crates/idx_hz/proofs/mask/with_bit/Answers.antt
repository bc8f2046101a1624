use Rattle.idx_hz.proofs.MaskLemmas.{bit_in_front}
use Rattle.idx_hz.proofs.mask.with_bit.Goals as goal

pub returns : goal.returns
returns c = bit_in_front c.args.bit c.args.z c.args.digits c.requires.bit c.requires.digits c.requires.few
