-- Two passes of exchanges permute the samples by the bits of their places, and with a third one in block 0 they take each
-- sample from its row place to its offset, or back.
use Rattle.std.proofs.Common.{◌≡◌, ◌≢◌, ℕ, ◌^◌, ◌<◌, List, get_or, sym, ap, ◌∙◌}
use Rattle.std.specs.Int.{bit_at}
use Rattle.std.proofs.lemmas.Nat.Bits.{same_from_bits_below}
use Rattle.idx_rowmajor.specs.Bits.{ArePlaces, Carries}
use Rattle.idx_rowmajor.specs.Exchange.{IsPairing, IsExchanged, AreGathered, AreTaken}
use Rattle.idx_rowmajor.specs.Involutions.{IsInvolution, AreInvolutions}
use Rattle.idx_rowmajor.specs.Reverse.{turned}
use Rattle.idx_rowmajor.specs.Targets.{AreInverse, bits_of}
use Rattle.idx_rowmajor.proofs.BitLemmas.{same_carried}
use Rattle.idx_rowmajor.proofs.InverseLemmas.{Carries-inverse}
use Rattle.idx_rowmajor.proofs.TurnedLemmas.{bits_of-first, bits_of-later, IsPairing-bits_of}
use Rattle.std.proofs.Common.{arith}

-- ---- one pass

pub ArePlaces-involution : (bits : ℕ) (places : List ℕ) → IsInvolution bits places → ArePlaces bits places
ArePlaces-involution bits places is = record {
  within = λ i inside. (is i inside).0;
  apart = λ i j less inside same.
      let here : get_or places (get_or places i 0) 0 ≡ i = (is i (omega arith)).1 in
      let there : get_or places (get_or places j 0) 0 ≡ j = (is j inside).1 in
      let equal : i ≡ j = sym here ∙ ap (λ n. get_or places n 0) same ∙ there in
      omega arith;
  onto = λ m inside. (get_or places m 0, (is m inside).0, (is m inside).1);
}

-- what carries the bits is its own partner's partner
pub IsPairing-carried : (bits : ℕ) (places : List ℕ) (f : ℕ → ℕ) → IsInvolution bits places → ((from : ℕ) → from < 2 ^ bits → Carries bits places from (f from)) → IsPairing (2 ^ bits) f
IsPairing-carried bits places f is carries o within =
    let one : Carries bits places o (f o) = carries o within in
    let two : Carries bits places (f o) (f (f o)) = carries (f o) one.small in (
      one.small,
      same_from_bits_below bits (f (f o)) o two.small within (λ m inside.
          let i : ℕ = get_or places m 0 in
          let back : get_or places i 0 ≡ m = (is m inside).1 in
          ap (bit_at (f (f o))) (sym back) ∙ two.each i (is m inside).0 ∙ one.each m inside),
    )

-- ---- two passes

pub AreGathered-twice : {X : Type 0} (bits : ℕ) (targets inner outer : List ℕ) (f g : ℕ → ℕ) (old mid new : ℕ → X) → ArePlaces bits targets → AreInvolutions bits targets inner outer →
    ((from : ℕ) → from < 2 ^ bits → Carries bits outer from (f from)) → ((from : ℕ) → from < 2 ^ bits → Carries bits inner from (g from)) →
    IsExchanged (2 ^ bits) f old mid → IsExchanged (2 ^ bits) g mid new → AreGathered bits targets old new
AreGathered-twice bits targets inner outer f g old mid new are split by_f by_g first second from to small carried =
    let one : Carries bits inner from (g from) = by_g from small in
    let two : Carries bits outer (g from) (f (g from)) = by_f (g from) one.small in
    let both : Carries bits targets from (f (g from)) = record {
      small = two.small;
      each = λ i inside. ap (bit_at (f (g from))) (sym (split.both i inside)) ∙ two.each (get_or inner i 0) (split.first i inside).0 ∙ one.each i inside;
    } in
    second from small ∙ first (g from) one.small ∙ ap old (same_carried bits targets from (f (g from)) to are both carried)

-- ---- block 0

pub IsExchanged-first : {X : Type 0} (bits block : ℕ) (old new : ℕ → X) → block ≡ 0 → IsExchanged (2 ^ bits) (turned bits) old new → IsExchanged (2 ^ bits) (bits_of bits block) old new
IsExchanged-first bits block old new none exchanged o within = exchanged o within ∙ ap old (sym (bits_of-first bits block o none))

pub IsExchanged-later : {X : Type 0} (bits block : ℕ) (old : ℕ → X) → block ≢ 0 → IsExchanged (2 ^ bits) (bits_of bits block) old old
IsExchanged-later bits block old some o within = ap old (sym (bits_of-later bits block o some))

-- ---- from row places to offsets, and back

pub AreTaken-gathered : {X : Type 0} (bits block : ℕ) (targets : List ℕ) (rows mid hz : ℕ → X) → AreGathered bits targets rows mid → IsExchanged (2 ^ bits) (bits_of bits block) mid hz → AreTaken bits block targets rows hz
AreTaken-gathered bits block targets rows mid hz gathered exchanged offset place small carried =
    exchanged offset small ∙ gathered (bits_of bits block offset) place (IsPairing-bits_of bits block offset small).0 carried

pub AreTaken-back : {X : Type 0} (bits block : ℕ) (targets inverse : List ℕ) (rows mid hz : ℕ → X) → ArePlaces bits targets → AreInverse bits targets inverse → IsExchanged (2 ^ bits) (bits_of bits block) hz mid → AreGathered bits inverse mid rows → AreTaken bits block targets rows hz
AreTaken-back bits block targets inverse rows mid hz are back exchanged gathered offset place small carried =
    let pairing : (bits_of bits block offset < 2 ^ bits) × (bits_of bits block (bits_of bits block offset) ≡ offset) = IsPairing-bits_of bits block offset small in
    let turned_back : Carries bits inverse place (bits_of bits block offset) = Carries-inverse bits targets inverse (bits_of bits block offset) place back are pairing.0 carried in
    sym (gathered place (bits_of bits block offset) carried.small turned_back ∙ exchanged (bits_of bits block offset) pairing.0 ∙ ap hz pairing.1)
