-- The digits of a block, from the finest on.
use Rattle.std.proofs.Common.{◌≡◌, ◌≢◌, ℕ, zero, suc, ◌+◌, ◌-◌, ◌<◌, ◌≤◌, List, [], ◌∷◌, length, drop, get_or, refl, sym, ap, ◌∙◌, ⊎_elim, arith, length-drop, length-take-le}
use Rattle.std.proofs.Math.ListN.{set}
use Rattle.std.proofs.lemmas.Bool.{cases_eq, cases_lt}
use Rattle.std.proofs.lemmas.List.{drop_more, get_or-take, get_or-drop, get_or-set_same, get_or-set_other, length-set}
use Rattle.idx_hz.specs.Mask.{bit_count}
use Rattle.idx_hz.proofs.ZLemmas.{bit_count-same, bit_count-other}
use Rattle.idx_rowmajor.specs.Digits.{digits_behind}
use Rattle.idx_rowmajor.specs.Targets.{first_place, target_of}

pub length-digits_behind : (mask : List ℕ) (k bits : ℕ) → k + bits ≤ length mask → length (digits_behind mask k bits) ≡ bits
length-digits_behind mask k bits fits = length-take-le bits (drop k mask) (omega (arith, length-drop k mask))

-- a digit of the block is one of the mask
pub get_or-digits_behind : (mask : List ℕ) (k bits i : ℕ) → i < bits → get_or (digits_behind mask k bits) i 0 ≡ get_or mask (k + i) 0
get_or-digits_behind mask k bits i within = get_or-take bits (drop k mask) i 0 within ∙ get_or-drop k mask i 0

-- one digit more behind
pub next_digit : (digits : List ℕ) (bits bit : ℕ) → length digits ≡ bits → bit < bits → drop (bits - (bit + 1)) digits ≡ get_or digits (bits - (bit + 1)) 0 ∷ drop (bits - bit) digits
next_digit digits bits bit len within =
    let next : bits - (bit + 1) + 1 ≡ bits - bit = omega arith in
    rw next at (drop_more digits (bits - (bit + 1)) 0 (omega arith))

-- the digit at a place of the mask, counted from 1
pub digit_at : (mask : List ℕ) (k bits bit : ℕ) → bit < bits → get_or (digits_behind mask k bits) (bits - (bit + 1)) 0 ≡ get_or mask (k + bits - bit - 1) 0
digit_at mask k bits bit within =
    let place : k + (bits - (bit + 1)) ≡ k + bits - bit - 1 = omega arith in
    get_or-digits_behind mask k bits (bits - (bit + 1)) (omega arith) ∙ ap (λ n. get_or mask n 0) place

-- ---- a count of the digits of an axis

pub record IsCounted (mask : List ℕ) (k bits axis bit count : ℕ) : Type 0 where
  pub value : count ≡ bit_count axis (drop (bits - bit) (digits_behind mask k bits))
  pub small : count ≤ bit

pub IsCounted-none : (mask : List ℕ) (k bits axis : ℕ) → k + bits ≤ length mask → IsCounted mask k bits axis 0 0
IsCounted-none mask k bits axis fits = record { value = sym (ap (bit_count axis) (drop_past (digits_behind mask k bits) (bits - 0) (omega (arith, length-digits_behind mask k bits fits)))); small = omega arith }
  where
    drop_past : (xs : List ℕ) (n : ℕ) → length xs ≤ n → drop n xs ≡ []
    drop_past [] zero h = refl
    drop_past [] (suc n) h = refl
    drop_past (x ∷ xs) zero h = absurd (omega arith)
    drop_past (x ∷ xs) (suc n) h = drop_past xs n (omega arith)

pub IsCounted-same : (mask : List ℕ) (k bits axis bit count digit : ℕ) → k + bits ≤ length mask → bit < bits → digit ≡ get_or mask (k + bits - bit - 1) 0 → digit ≡ axis → IsCounted mask k bits axis bit count → IsCounted mask k bits axis (bit + 1) (count + 1)
IsCounted-same mask k bits axis bit count digit fits within is same counted =
    let digits : List ℕ = digits_behind mask k bits in
    let here : get_or digits (bits - (bit + 1)) 0 ≡ axis = digit_at mask k bits bit within ∙ sym is ∙ same in
    record {
      value = sym (ap (bit_count axis) (next_digit digits bits bit (length-digits_behind mask k bits fits) within) ∙ bit_count-same (get_or digits (bits - (bit + 1)) 0) axis (drop (bits - bit) digits) here ∙ omega (arith, counted.value));
      small = omega (arith, counted.small);
    }

pub IsCounted-other : (mask : List ℕ) (k bits axis bit count digit : ℕ) → k + bits ≤ length mask → bit < bits → digit ≡ get_or mask (k + bits - bit - 1) 0 → digit ≢ axis → IsCounted mask k bits axis bit count → IsCounted mask k bits axis (bit + 1) count
IsCounted-other mask k bits axis bit count digit fits within is other counted =
    let digits : List ℕ = digits_behind mask k bits in
    let here : get_or digits (bits - (bit + 1)) 0 ≢ axis = λ e. other (is ∙ sym (digit_at mask k bits bit within) ∙ e) in
    record {
      value = sym (ap (bit_count axis) (next_digit digits bits bit (length-digits_behind mask k bits fits) within) ∙ bit_count-other (get_or digits (bits - (bit + 1)) 0) axis (drop (bits - bit) digits) here ∙ sym counted.value);
      small = omega (arith, counted.small);
    }

pub counted-all : (mask : List ℕ) (k bits axis bit count : ℕ) → bits ≤ bit → IsCounted mask k bits axis bit count → count ≡ bit_count axis (digits_behind mask k bits)
counted-all mask k bits axis bit count all counted =
    let none : bits - bit ≡ 0 = omega arith in
    counted.value ∙ ap (λ n. bit_count axis (drop n (digits_behind mask k bits))) none

-- ---- the targets

-- where the next bit of each axis goes, and the targets of the bits before
pub record IsPlacing (mask : List ℕ) (k bits bit : ℕ) (next targets : List ℕ) : Type 0 where
  pub axes : length next ≡ 5
  pub room : length targets ≡ 20
  pub small : (a : ℕ) → a < 5 → get_or next a 0 ≤ 100 + bit
  pub free : (a : ℕ) → a < 5 → get_or next a 0 ≡ first_place (digits_behind mask k bits) a + bit_count a (drop (bits - bit) (digits_behind mask k bits))
  pub known : (j : ℕ) → j < bit → j < bits → get_or targets j 0 ≡ target_of (digits_behind mask k bits) j

pub IsPlacing-none : (mask next targets : List ℕ) (k bits : ℕ) → k + bits ≤ length mask → length next ≡ 5 → length targets ≡ 20 → ((a : ℕ) → a < length next → get_or next a 0 ≡ first_place (digits_behind mask k bits) a) → ((a : ℕ) → a < length next → get_or next a 0 ≤ 100) → IsPlacing mask k bits 0 next targets
IsPlacing-none mask next targets k bits fits axes room first small = record {
  axes = axes;
  room = room;
  small = λ a within. omega (arith, small a (omega arith));
  free = λ a within.
      let none : 0 ≡ bit_count a (drop (bits - 0) (digits_behind mask k bits)) = (IsCounted-none mask k bits a fits).value in
      omega (arith, first a (omega arith));
  known = λ j none within. absurd (omega arith);
}

pub IsPlacing-more : (mask next targets : List ℕ) (k bits bit axis : ℕ) → k + bits ≤ length mask → bits ≤ 20 → bit < bits → axis < 5 → axis ≡ get_or mask (k + bits - bit - 1) 0 → IsPlacing mask k bits bit next targets → IsPlacing mask k bits (bit + 1) (set next axis (get_or next axis 0 + 1)) (set targets bit (get_or next axis 0))
IsPlacing-more mask next targets k bits bit axis fits few within inside is placing =
    let digits : List ℕ = digits_behind mask k bits in
    let len : length digits ≡ bits = length-digits_behind mask k bits fits in
    let here : get_or digits (bits - (bit + 1)) 0 ≡ axis = digit_at mask k bits bit within ∙ sym is in
    let split : drop (bits - (bit + 1)) digits ≡ get_or digits (bits - (bit + 1)) 0 ∷ drop (bits - bit) digits = next_digit digits bits bit len within in
    record {
      axes = length-set next axis (get_or next axis 0 + 1) ∙ placing.axes;
      room = length-set targets bit (get_or next axis 0) ∙ placing.room;
      small = λ a small. ⊎_elim
          (λ (same : a ≡ axis). omega (arith, ap (λ n. get_or (set next axis (get_or next axis 0 + 1)) n 0) same, get_or-set_same next axis (get_or next axis 0 + 1) 0 (omega (arith, placing.axes)), placing.small axis inside))
          (λ (other : a ≢ axis). omega (arith, get_or-set_other next axis a (get_or next axis 0 + 1) 0 other, placing.small a small))
          (cases_eq a axis);
      free = λ a small. ⊎_elim
          (λ (same : a ≡ axis).
          ap (λ n. get_or (set next axis (get_or next axis 0 + 1)) n 0) same ∙ get_or-set_same next axis (get_or next axis 0 + 1) 0 (omega (arith, placing.axes))
          ∙ (let step : get_or next axis 0 + 1 ≡ first_place digits axis + suc (bit_count axis (drop (bits - bit) digits)) = omega (arith, placing.free axis inside) in step)
          ∙ ap (λ n. first_place digits axis + n) (sym (ap (bit_count axis) split ∙ bit_count-same (get_or digits (bits - (bit + 1)) 0) axis (drop (bits - bit) digits) here))
          ∙ ap (λ n. first_place digits n + bit_count n (drop (bits - (bit + 1)) digits)) (sym same))
          (λ (other : a ≢ axis).
          get_or-set_other next axis a (get_or next axis 0 + 1) 0 other ∙ placing.free a small
          ∙ ap (λ n. first_place digits a + n) (sym (ap (bit_count a) split ∙ bit_count-other (get_or digits (bits - (bit + 1)) 0) a (drop (bits - bit) digits) (λ e. other (sym e ∙ here)))))
          (cases_eq a axis);
      known = λ j below small. ⊎_elim
          (λ (less : j < bit). get_or-set_other targets bit j (get_or next axis 0) 0 (λ e. omega arith) ∙ placing.known j less small)
          (λ (most : bit ≤ j).
          let same : j ≡ bit = omega arith in
          let index : length digits - 1 - bit ≡ bits - (bit + 1) = omega (arith, len) in
          let behind : length digits - bit ≡ bits - bit = omega (arith, len) in
          let digit : get_or digits (length digits - 1 - bit) 0 ≡ axis = ap (λ n. get_or digits n 0) index ∙ here in
          ap (λ n. get_or (set targets bit (get_or next axis 0)) n 0) same
          ∙ get_or-set_same targets bit (get_or next axis 0) 0 (omega (arith, placing.room))
          ∙ placing.free axis inside
          ∙ sym (ap (target_of digits) same ∙ ap (λ a. first_place digits a + bit_count a (drop (length digits - bit) digits)) digit ∙ ap (λ n. first_place digits axis + bit_count axis (drop n digits)) behind))
          (cases_lt j bit);
    }
