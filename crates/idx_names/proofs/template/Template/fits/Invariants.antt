use Rattle.std.proofs.Common.{◌≡◌, ◌/◌, ◌^◌, take}
use Rattle.idx_names.specs.Pieces.{bits_of}
use Rattle.idx_names.proofs.template.Template.fits.Given as goal

abbrev pub invariant-loop-piece : goal.invariant-loop-piece
invariant-loop-piece l = l.left ≡ l.file / 2 ^ bits_of (take l.piece-index l.piece-items)
