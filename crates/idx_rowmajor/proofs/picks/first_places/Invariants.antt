use Rattle.std.proofs.Common.{◌≡◌, ℕ, ◌<◌, slice_index, length}
use Rattle.idx_rowmajor.specs.Tables.{partner_of}
use Rattle.idx_rowmajor.proofs.picks.first_places.Given as goal

abbrev pub invariant-loop-place : goal.invariant-loop-place
invariant-loop-place l = (length l.places ≡ 8) × ((i : ℕ) → i < l.place → slice_index l.places i ≡ partner_of l.tables i)
