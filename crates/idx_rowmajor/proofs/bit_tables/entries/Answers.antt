use Rattle.std.specs.Prelude.{replicate}
use Rattle.std.proofs.Common.{◌≡◌, ℕ, ◌<◌, ◌≤◌, ◌+◌, ◌*◌, ◌%◌, ◌^◌, get_or, refl, arith}
use Rattle.std.proofs.Math.Pow.{pow_mono}
use Rattle.std.proofs.lemmas.Nat.{one_shl}
use Rattle.idx_rowmajor.specs.Tables.{AreApart}
use Rattle.idx_rowmajor.proofs.TableLemmas.{AreApart-fewer, AreEntries-none, AreEntries-more}
use Rattle.idx_rowmajor.proofs.bit_tables.entries.Goals as goal

pub loop-bit-init : goal.loop-bit-init
loop-bit-init c = (refl, AreEntries-none c.args.places.now (replicate 1024 0) c.args.first refl)

pub loop-bit-preserved : goal.loop-bit-preserved
loop-bit-preserved c =
    let bit : ℕ = c.loop-bit.bit in
    let apart : AreApart c.args.places.now c.args.first (bit + 1) = AreApart-fewer c.args.places.now c.args.first (bit + 1) c.args.bits (omega (arith, c.loop-bit-test.true)) c.requires.places in
    let place : get_or c.args.places.now (c.args.first + bit) 0 < 20 = c.requires.places.small bit c.loop-bit-test.true in (
      c.add_bit.array_long,
      AreEntries-more c.args.places.now c.loop-bit.entries c.add_bit.new.entries c.args.first bit _ _ apart
          (one_shl bit 64 (omega (arith, c.loop-bit-test.true, c.requires.few)))
          (one_shl (get_or c.args.places.now (c.args.first + bit) 0) 32 (omega arith))
          c.add_bit.ensures.first c.add_bit.ensures.second c.loop-bit.invariant.1,
    )

pub add_bit-requires : goal.add_bit-requires
add_bit-requires c =
    let bit : ℕ = c.loop-bit.bit in
    let is : 1 * 2 ^ bit % 2 ^ 64 ≡ 2 ^ bit = one_shl bit 64 (omega (arith, c.loop-bit-test.true, c.requires.few)) in
    let most : bit ≤ 9 = omega (arith, c.loop-bit-test.true, c.requires.few) in
    let power : 2 ^ bit ≤ 2 ^ 9 = pow_mono most in
    omega arith
