use Rattle.std.proofs.Common.{◌≡◌, drop}
use Rattle.idx_header.specs.Box.{fits_from}
use Rattle.idx_header.proofs.space.fits.Given as goal

abbrev pub invariant-loop-axis : goal.invariant-loop-axis
invariant-loop-axis l = fits_from 0 l.pairs l.mask ≡ fits_from l.axis (drop l.axis l.pairs) l.mask
