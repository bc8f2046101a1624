use Rattle.idx_hz.proofs.PointLemmas.{HasHighBits}
use Rattle.idx_hz.proofs.mask.Mask.coordinates_at.Given as goal

abbrev pub invariant-loop-place : goal.invariant-loop-place
invariant-loop-place l = HasHighBits l.digits l.z l.place l.coordinates
