-- The row place of each offset of a block has its bits, each at its place.
use Rattle.std.proofs.Common.{◌≡◌, ◌≢◌, ℕ, ◌-◌, ◌*◌, ◌^◌, ◌<◌, ◌≤◌, List, length, refl, sym, ap, ◌∙◌, ⊎_elim, arith, subst}
use Rattle.std.proofs.Math.Nat.{pow-suc}
use Rattle.std.proofs.Math.Pow.{pow_mono}
use Rattle.std.proofs.lemmas.Bool.{cases_eq, cases_lt, eq-eqb, ne_eqb}
use Rattle.std.proofs.lemmas.Nat.{pow_pos}
use Rattle.idx_hz.specs.Mask.{NamesAxes}
use Rattle.idx_rowmajor.specs.Bits.{ArePlaces, Carries}
use Rattle.idx_rowmajor.specs.Digits.{rank_of_digits, digits_behind}
use Rattle.idx_rowmajor.specs.Exchange.{IsPairing}
use Rattle.idx_rowmajor.specs.Reverse.{reversed, turned}
use Rattle.idx_rowmajor.specs.RowPlace.{IsBlock, row_place, offset_at}
use Rattle.idx_rowmajor.specs.Targets.{AreInverse, AreMirrored, AreTargets, GiveRowPlaces, bits_of}
use Rattle.idx_rowmajor.proofs.BitLemmas.{same_carried}
use Rattle.idx_rowmajor.proofs.BlockPlaceLemmas.{Carries-block, rank-first}
use Rattle.idx_rowmajor.proofs.BlockRankLemmas.{IsLater, row_rank-later}
use Rattle.idx_rowmajor.proofs.InverseLemmas.{Carries-back}
use Rattle.idx_rowmajor.proofs.ReverseLemmas.{turned-lt, turned-twice}
use Rattle.idx_rowmajor.proofs.RowPlaceLemmas.{IsAt, point_at-offset, row_place-rank, offset_at-row_place}
use Rattle.idx_rowmajor.proofs.TargetLemmas.{Carries-mirrored}

-- ---- the bits of an offset

pub bits_of-first : (bits block offset : ℕ) → block ≡ 0 → bits_of bits block offset ≡ turned bits offset
bits_of-first bits block offset none = rw (eq-eqb block 0 none) refl

pub bits_of-later : (bits block offset : ℕ) → block ≢ 0 → bits_of bits block offset ≡ offset
bits_of-later bits block offset some = rw (ne_eqb block 0 some) refl

pub IsPairing-bits_of : (bits block : ℕ) → IsPairing (2 ^ bits) (bits_of bits block)
IsPairing-bits_of bits block o within = ⊎_elim
    (λ (none : block ≡ 0).
    let is : (n : ℕ) → bits_of bits block n ≡ turned bits n = λ n. bits_of-first bits block n none in (
      subst (λ n. n < 2 ^ bits) (sym (is o)) (turned-lt bits o within),
      is (bits_of bits block o) ∙ ap (turned bits) (is o) ∙ turned-twice bits o within,
    ))
    (λ (some : block ≢ 0).
    let is : (n : ℕ) → bits_of bits block n ≡ n = λ n. bits_of-later bits block n some in (
      subst (λ n. n < 2 ^ bits) (sym (is o)) within,
      is (bits_of bits block o) ∙ is o,
    ))
    (cases_eq block 0)

-- ---- the row places

pub GiveRowPlaces-later : (mask targets : List ℕ) (axes bits k block : ℕ) → IsLater mask axes bits k block → block < 2 ^ (length mask - bits) → AreTargets bits (digits_behind mask k bits) targets → GiveRowPlaces mask axes bits block targets
GiveRowPlaces-later mask targets axes bits k block later exists are offset small =
    let is : IsBlock mask axes bits block = record { named = later.named; fits = omega (arith, later.fits); exists = exists } in
    let found : (p : List ℕ) × IsAt mask axes bits block offset p = point_at-offset mask axes bits block offset is small in
    let some : block ≢ 0 = λ none. omega (arith, later.from, pow_pos k) in
    let rank : row_place mask axes bits block offset ≡ rank_of_digits (digits_behind mask k bits) axes offset =
    row_place-rank mask axes bits block offset found.0 small later.named found.1 ∙ row_rank-later mask axes bits k block later offset found.0 small found.1.len found.1.has found.1.address in
    subst (λ n. Carries bits targets n (row_place mask axes bits block offset)) (sym (bits_of-later bits block offset some))
    (subst (Carries bits targets offset) (sym rank) (Carries-block mask targets axes k bits offset later.named (omega (arith, later.fits)) are))

pub GiveRowPlaces-first : (mask targets mirrored : List ℕ) (axes bits : ℕ) → NamesAxes mask axes → bits ≤ length mask → AreTargets bits (digits_behind mask 0 bits) targets → AreMirrored bits targets mirrored → GiveRowPlaces mask axes bits 0 mirrored
GiveRowPlaces-first mask targets mirrored axes bits named fits are mirror offset small =
    let is : IsBlock mask axes bits 0 = record { named = named; fits = fits; exists = pow_pos (length mask - bits) } in
    let found : (p : List ℕ) × IsAt mask axes bits 0 offset p = point_at-offset mask axes bits 0 offset is small in
    let from : ℕ = turned bits offset in
    let t : ℕ = reversed bits from in
    let rank : row_place mask axes bits 0 offset ≡ rank_of_digits (digits_behind mask 0 bits) axes t =
    row_place-rank mask axes bits 0 offset found.0 small named found.1 ∙ rank-first mask axes bits named fits found.0 offset small found.1.len found.1.has found.1.address in
    subst (λ n. Carries bits mirrored n (row_place mask axes bits 0 offset)) (sym (bits_of-first bits 0 offset refl))
    (subst (Carries bits mirrored from) (sym rank)
    (Carries-mirrored bits targets mirrored from (rank_of_digits (digits_behind mask 0 bits) axes t) mirror (Carries-block mask targets axes 0 bits t named (omega arith) are)))

-- what carries the bits of an offset is its row place
pub row_place-carried : (mask targets : List ℕ) (axes bits block offset place : ℕ) → ArePlaces bits targets → GiveRowPlaces mask axes bits block targets → offset < 2 ^ bits → Carries bits targets (bits_of bits block offset) place → place ≡ row_place mask axes bits block offset
row_place-carried mask targets axes bits block offset place are give small carried =
    same_carried bits targets (bits_of bits block offset) place (row_place mask axes bits block offset) are carried (give offset small)

-- and the offset of a row place has the place's bits, taken back
pub offset_at-carried : (mask targets inverse : List ℕ) (axes bits block place carrying offset : ℕ) → IsBlock mask axes bits block → ArePlaces bits targets → AreInverse bits targets inverse → GiveRowPlaces mask axes bits block targets → place < 2 ^ bits →
    Carries bits inverse place carrying → offset ≡ bits_of bits block carrying → offset ≡ offset_at mask axes bits block place
offset_at-carried mask targets inverse axes bits block place carrying offset is are back give small carried at =
    let pairing : (bits_of bits block carrying < 2 ^ bits) × (bits_of bits block (bits_of bits block carrying) ≡ carrying) = IsPairing-bits_of bits block carrying carried.small in
    let below : offset < 2 ^ bits = subst (λ n. n < 2 ^ bits) (sym at) pairing.0 in
    let own : bits_of bits block offset ≡ carrying = ap (bits_of bits block) at ∙ pairing.1 in
    let forth : Carries bits targets carrying place = Carries-back bits targets inverse place carrying back are small carried in
    let place_is : place ≡ row_place mask axes bits block offset = row_place-carried mask targets axes bits block offset place are give below (subst (λ n. Carries bits targets n place) (sym own) forth) in
    sym (ap (offset_at mask axes bits block) place_is ∙ offset_at-row_place mask axes bits block offset is below)

-- ---- the block of k + 1 binary digits

pub IsLater-of : (mask : List ℕ) (axes bits k block : ℕ) → NamesAxes mask axes → bits ≤ length mask → k < length mask - bits → 2 ^ k ≤ block → block < 2 * 2 ^ k → IsLater mask axes bits k block
IsLater-of mask axes bits k block named fits inside from to = record { named = named; fits = omega arith; from = from; to = omega (arith, pow-suc 2 k) }

-- a number below 2 to so many digits has its highest 1 among them
pub highest-lt : (k digits block : ℕ) → 2 ^ k ≤ block → block < 2 ^ digits → k < digits
highest-lt k digits block from to = ⊎_elim
    (λ (less : k < digits). less)
    (λ (most : digits ≤ k). absurd (omega (arith, pow_mono most)))
    (cases_lt k digits)
