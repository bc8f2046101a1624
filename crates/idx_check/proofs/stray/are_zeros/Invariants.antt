use Rattle.std.proofs.Common.{◌≡◌, ℕ, ◌<◌, true, slice_index}
use Rattle.idx_check.proofs.stray.are_zeros.Given as goal

abbrev pub invariant-loop-at : goal.invariant-loop-at
invariant-loop-at l =
    (l.all ≡ true → (i : ℕ) → i < l.at → slice_index l.bytes i ≡ 0)
    × (((i : ℕ) → i < l.at → slice_index l.bytes i ≡ 0) → l.all ≡ true)
