use Rattle.std.proofs.Common.{◌≡◌, ℕ, ◌-◌, ◌<◌, length, get_or}
use Rattle.idx_rowmajor.proofs.turned.mirror.Given as goal

abbrev pub invariant-loop-bit : goal.invariant-loop-bit
invariant-loop-bit l = (length l.places ≡ 20) × ((j : ℕ) → j < l.bit → get_or l.places j 0 ≡ l.bits - 1 - j)
