-- The ranks of the points of a block have the bits of their offsets, each at its place.
use Rattle.std.proofs.Common.{◌≡◌, ℕ, ◌+◌, ◌*◌, ◌^◌, ◌<◌, ◌≤◌, List, length, drop, sym, ◌∙◌, arith, subst}
use Rattle.std.proofs.lemmas.List.Elements.{All-take, All-drop}
use Rattle.idx_hz.specs.Mask.{NamesAxes, HasAddress}
use Rattle.idx_hz.specs.Address.{hz_at, hz_address}
use Rattle.idx_rowmajor.specs.Bits.{ArePlaces, Carries}
use Rattle.idx_rowmajor.specs.Reverse.{reversed, turned}
use Rattle.idx_rowmajor.specs.Digits.{row_rank, rank_of_digits, digits_behind}
use Rattle.idx_rowmajor.specs.Targets.{AreTargets}
use Rattle.idx_rowmajor.proofs.ReverseLemmas.{reversed-lt}
use Rattle.idx_rowmajor.proofs.BlockRankLemmas.{row_rank-first}
use Rattle.idx_rowmajor.proofs.DigitLemmas.{length-digits_behind}
use Rattle.idx_rowmajor.proofs.TargetLemmas.{ArePlaces-targets, Carries-targets, hz_at-reversed_turned}

-- ---- the digits of a block

pub NamesAxes-digits_behind : (mask : List ℕ) (axes k bits : ℕ) → NamesAxes mask axes → NamesAxes (digits_behind mask k bits) axes
NamesAxes-digits_behind mask axes k bits named = All-take (λ d. d < axes) bits (drop k mask) (All-drop (λ d. d < axes) k mask named)

pub ArePlaces-block : (mask targets : List ℕ) (axes k bits : ℕ) → NamesAxes mask axes → k + bits ≤ length mask → AreTargets bits (digits_behind mask k bits) targets → ArePlaces bits targets
ArePlaces-block mask targets axes k bits named fits are =
    let len : length (digits_behind mask k bits) ≡ bits = length-digits_behind mask k bits fits in
    subst (λ n. ArePlaces n targets) len (ArePlaces-targets (digits_behind mask k bits) targets axes (NamesAxes-digits_behind mask axes k bits named)
    (subst (λ n. AreTargets n (digits_behind mask k bits) targets) (sym len) are))

pub Carries-block : (mask targets : List ℕ) (axes k bits t : ℕ) → NamesAxes mask axes → k + bits ≤ length mask → AreTargets bits (digits_behind mask k bits) targets → Carries bits targets t (rank_of_digits (digits_behind mask k bits) axes t)
Carries-block mask targets axes k bits t named fits are =
    let len : length (digits_behind mask k bits) ≡ bits = length-digits_behind mask k bits fits in
    subst (λ n. Carries n targets t (rank_of_digits (digits_behind mask k bits) axes t)) len (Carries-targets (digits_behind mask k bits) targets axes t (NamesAxes-digits_behind mask axes k bits named)
    (subst (λ n. AreTargets n (digits_behind mask k bits) targets) (sym len) are))

-- the rank of a point of block 0
pub rank-first : (mask : List ℕ) (axes bits : ℕ) → NamesAxes mask axes → bits ≤ length mask → (p : List ℕ) (offset : ℕ) → offset < 2 ^ bits → length p ≡ axes → HasAddress mask p → hz_address mask p ≡ 0 * 2 ^ bits + offset → row_rank mask axes bits 0 p ≡ rank_of_digits (digits_behind mask 0 bits) axes (reversed bits (turned bits offset))
rank-first mask axes bits named fits p offset small len has address =
    let t : ℕ = reversed bits (turned bits offset) in
    let number : hz_address mask p ≡ hz_at bits t = address ∙ (let h : 0 * 2 ^ bits + offset ≡ offset = omega arith in h) ∙ sym (hz_at-reversed_turned bits offset small) in
    row_rank-first mask axes bits named fits t p (reversed-lt bits (turned bits offset)) len has number
