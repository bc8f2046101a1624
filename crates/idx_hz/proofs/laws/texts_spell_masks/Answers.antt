-- The law is proved over lists of bytes.
use Rattle.idx_hz.proofs.MaskTextLemmas.{mask_of_iff}
use Rattle.idx_hz.proofs.laws.texts_spell_masks.Goals as goal

pub returns : goal.returns
returns c = mask_of_iff
