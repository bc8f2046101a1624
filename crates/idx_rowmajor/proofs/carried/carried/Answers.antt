use Rattle.std.proofs.Common.{◌≡◌, ℕ, ◌+◌, ◌*◌, ◌/◌, ◌%◌, ◌^◌, ◌<◌, get_or, sym, subst, arith}
use Rattle.std.specs.Prelude.{bit_and, bit_or}
use Rattle.std.specs.Int.{bit_at}
use Rattle.std.proofs.lemmas.Nat.{shl_whole}
use Rattle.std.proofs.lemmas.Nat.Bits.{bit_at-lt, shr_and_one}
use Rattle.idx_rowmajor.proofs.CarryLemmas.{IsCarrying, IsCarrying-more, IsCarrying-all}
use Rattle.idx_rowmajor.proofs.carried.carried.Goals as goal

pub loop-bit-preserved : goal.loop-bit-preserved
loop-bit-preserved c =
    let bit : ℕ = c.loop-bit.bit in
    let place : ℕ = get_or c.args.places.now bit 0 in
    let within : bit < c.args.bits = c.loop-bit-test.true in
    let below : place < c.args.bits = c.requires.places.within bit within in
    let b : ℕ = bit_and (c.args.from / 2 ^ bit) 1 in
    let is : b ≡ bit_at c.args.from bit = shr_and_one c.args.from bit in
    let small : b < 2 ^ 1 = omega (arith, bit_at-lt c.args.from bit) in
    let whole : b * 2 ^ place % 2 ^ 64 ≡ b * 2 ^ place = shl_whole b 1 place 64 small (omega (arith, c.requires.bits)) in
    subst (λ n. IsCarrying c.args.bits (bit + 1) c.args.places.now c.args.from (bit_or c.loop-bit.to n)) (sym whole)
    (IsCarrying-more c.args.bits bit c.args.places.now c.args.from c.loop-bit.to b within c.requires.places is c.loop-bit.invariant)

pub returns : goal.returns
returns c = IsCarrying-all c.args.bits c.loop-bit.bit c.args.places.now c.args.from c.loop-bit.to c.loop-bit-test.false c.requires.places c.loop-bit.invariant
