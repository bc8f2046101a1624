use Rattle.std.proofs.Common.{◌≡◌, ℕ, ◌*◌, ◌<◌, ◌≤◌, length, get_or}
use Rattle.idx_rowmajor.specs.Digits.{digits_behind}
use Rattle.idx_rowmajor.specs.Targets.{first_place}
use Rattle.idx_rowmajor.proofs.bit_places.first_places.Given as goal

abbrev pub invariant-loop-axis : goal.invariant-loop-axis
invariant-loop-axis l = (length l.places ≡ 5) × ((a : ℕ) → a < l.axis → get_or l.places a 0 ≡ first_place (digits_behind l.mask l.first l.bits) a) × ((a : ℕ) → a < l.axis → get_or l.places a 0 ≤ 20 * a)
