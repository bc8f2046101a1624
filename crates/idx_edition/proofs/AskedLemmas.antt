-- Bytes that were asked for, table after table.
use Rattle.std.proofs.Common.{ℕ, ◌+◌, ◌*◌, ◌≤◌, arith}
use Rattle.idx_edition.specs.Asked.{AskedAtMost}

-- none was
pub asked_none : (count most : ℕ) → AskedAtMost count count (0 * most)
asked_none count most = record { bytes = 0; few = omega arith; asked = omega arith }

-- those of one table more
pub asked_more : (before now after n most : ℕ) → AskedAtMost before now (n * most) → AskedAtMost now after most → AskedAtMost before after ((n + 1) * most)
asked_more before now after n most so_far one = record {
  bytes = so_far.bytes + one.bytes;
  few = let both : so_far.bytes + one.bytes ≤ n * most + most = omega (arith, so_far.few, one.few) in grind (arith, both);
  asked = omega (arith, so_far.asked, one.asked);
}
