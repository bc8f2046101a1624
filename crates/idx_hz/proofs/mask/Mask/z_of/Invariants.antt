use Rattle.idx_hz.proofs.MaskLemmas.{IsReadFrom}
use Rattle.idx_hz.proofs.mask.Mask.z_of.Given as goal

abbrev pub invariant-loop-place : goal.invariant-loop-place
invariant-loop-place l = IsReadFrom l.digits l.p l.place l.z l.used
