use Rattle.idx_hz.proofs.MaskLemmas.{IsStoredSoFar}
use Rattle.idx_hz.proofs.mask.Mask.of_digits.Given as goal

abbrev pub invariant-loop-place : goal.invariant-loop-place
invariant-loop-place l = IsStoredSoFar l.digits l.stored l.place
