-- Lemmas on a mask's digits, its text, its Z addresses and their levels.
use Rattle.std.proofs.Common.{◌≡◌, ◌≢◌, ℕ, zero, suc, ◌+◌, ◌-◌, ◌*◌, ◌/◌, ◌%◌, ◌^◌, ◌<◌, ◌≤◌, ◌↔◌, List, [], ◌∷◌, eqb, length, get_or, take, drop, set, replicate, map, All, count_by, refl, sym, ap, ◌∙◌, inl, inr, arith, add-one}
use Rattle.std.specs.Prelude.{◌==◌, if◌then◌else◌}
use Rattle.std.specs.Int.Bits.{bit_or}
use Rattle.std.specs.Int.Count.{count_trailing_zeros}
use Rattle.std.proofs.lemmas.Bool.{cases_eq, cases_lt, cond-true, cond-false, eq-eqb, ne_eqb}
use Rattle.std.proofs.lemmas.List.{take_more_set, map_more, length-set, drop-set-lt, drop-drop, drop-replicate, length-map, take_all, length-drop, take_rest}
use Rattle.std.proofs.lemmas.List.Elements.{All-head, All-tail, All-map, All-weaker, All-get_or, All-same}
use Rattle.std.proofs.lemmas.List.Recursion.{is_sum_by}
use Rattle.std.proofs.lemmas.List.Sums.{count_by-le-length}
use Rattle.std.proofs.lemmas.Nat.{mod-pow-add, shl_whole, or_shifted}
use Rattle.std.proofs.Math.Nat.{pow-suc}
use Rattle.idx_hz.specs.Mask.{IsMask, bit_count}
use Rattle.idx_hz.specs.Address.{z_address, twos_in, level_at}
use Rattle.idx_hz.proofs.HzLemmas.{twos_in-zero}
use Rattle.idx_hz.proofs.ZLemmas.{z_address-lt}
use Rattle.idx_hz.specs.MaskFields.{IsStored}
use Rattle.idx_hz.specs.MaskText.{mask_text, IsMaskDigit, IsFirstBad}

-- ---- how many bits an axis has

pub bits_counted : (axis : ℕ) (mask : List ℕ) → bit_count axis mask ≡ count_by (λ d. d == axis) mask
bits_counted axis mask = is_sum_by (bit_count axis) (λ d. if d == axis then 1 else 0) refl (λ _ _. refl) mask

pub bit_count-le : (axis : ℕ) (mask : List ℕ) → bit_count axis mask ≤ length mask
bit_count-le axis mask = rw bits_counted (count_by-le-length (λ d. d == axis) mask)

-- ---- the digits of a text

-- so many digits of a text are stored, and zeros stand behind them
pub record IsStoredSoFar (text stored : List ℕ) (place : ℕ) : Type 0 where
  pub room : length stored ≡ 40
  pub front : take place stored ≡ map (λ byte. byte - 48) (take place text)
  pub rest : drop place stored ≡ replicate (40 - place) 0

pub stored_more : (text stored : List ℕ) (place digit : ℕ) → place < length text → place < 40 → digit ≡ get_or text place 0 - 48 → IsStoredSoFar text stored place → IsStoredSoFar text (set stored place digit) (place + 1)
stored_more text stored place digit within few is h =
    record {
      room = length-set stored place digit ∙ h.room;
      front = rw (take_more_set stored place digit (omega (arith, h.room)), map_more (λ byte. byte - 48) text place 0 within, h.front, is) refl;
      rest = rw (drop-set-lt (place + 1) stored place digit (omega arith), ← drop-drop 1 place stored, h.rest, drop-replicate {X = ℕ} 1 (40 - place) 0) (ap (λ n. replicate n 0) (omega arith));
    }

pub stored_front : (text stored : List ℕ) → length text ≤ 40 → IsStoredSoFar text stored (length text) → take (length text) stored ≡ map (λ byte. byte - 48) text
stored_front text stored few h = h.front ∙ ap (map (λ byte. byte - 48)) (take_all (length text) text (omega arith))

pub digits_small : (text : List ℕ) → All IsMaskDigit text → All (λ d. d < 5) (map (λ byte. byte - 48) text)
digits_small text h = All-map (λ d. d < 5) (λ byte. byte - 48) text (All-weaker IsMaskDigit (λ byte. byte - 48 < 5) (λ byte d. omega (arith, d.0, d.1)) text h)

pub stored_all : (text stored : List ℕ) → 1 ≤ length text → length text ≤ 40 → All IsMaskDigit text → IsStoredSoFar text stored (length text) → IsStored (record { digits = stored; len = length text })
stored_all text stored some few digits h =
    let front : take (length text) stored ≡ map (λ byte. byte - 48) text = stored_front text stored few h in
    let size : length (map (λ byte. byte - 48) text) ≡ length text = length-map text (λ byte. byte - 48) in
    record {
      array = record { size = h.room; within = few; rest = h.rest };
      mask = rw front (record { some = rw size some; few = rw size few; digits = digits_small text digits });
    }

pub digits_back : (text : List ℕ) → All IsMaskDigit text → map (λ d. d + 48) (map (λ byte. byte - 48) text) ≡ text
digits_back [] h = refl
digits_back (byte ∷ rest) h =
    let d : IsMaskDigit byte = All-head IsMaskDigit byte rest h in
    let e : byte - 48 + 48 ≡ byte = omega (arith, d.0, d.1) in
    rw (e, digits_back rest (All-tail IsMaskDigit byte rest h)) refl

-- ---- Z addresses

-- a bit in front of some binary digits, as a 64-bit `|` makes it
pub bit_in_front : (bit z digits : ℕ) → bit < 2 → z < 2 ^ digits → digits < 40 → bit_or (bit * 2 ^ digits % 2 ^ 64) z ≡ bit * 2 ^ digits + z
bit_in_front bit z digits b l few =
    rw (shl_whole bit 1 digits 64 b (omega arith)) (or_shifted bit digits z l)

-- the digits from a place on are read: z is their address, and each axis has used the bits that they name
pub record IsReadFrom (mask p : List ℕ) (place z : ℕ) (used : List ℕ) : Type 0 where
  pub value : z ≡ z_address (drop place mask) p
  pub counts : (axis : ℕ) → axis < 5 → get_or used axis 0 ≡ bit_count axis (drop place mask)
  pub room : length used ≡ 5

pub read_all_small : (mask p : List ℕ) (place z : ℕ) (used : List ℕ) → place ≤ 0 → IsReadFrom mask p place z used → z < 2 ^ length mask
read_all_small mask p place z used none h =
    let start : place ≡ 0 = omega arith in
    let whole : z ≡ z_address mask p = rw start at h.value in
    rw whole (z_address-lt mask p)

-- one digit before those that are read
module _ (mask p : List ℕ) (place z : ℕ) (used : List ℕ) (valid : IsMask mask) (some : 0 < place) (within : place ≤ length mask) (h : IsReadFrom mask p place z used) where
  left : length (drop place mask) ≡ length mask - 1 - (place - 1)
  left = rw length-drop (omega arith)

  small : get_or mask (place - 1) 0 < 5
  small = valid.digits (place - 1) 0 (omega arith)

  pub read_small : z < 2 ^ (length mask - 1 - (place - 1))
  read_small = rw (h.value, ← left) (z_address-lt (drop place mask) p)

  pub used_small : get_or used (get_or mask (place - 1) 0) 0 < length mask
  used_small = rw (h.counts (get_or mask (place - 1) 0) small) (omega (arith, left, bit_count-le (get_or mask (place - 1) 0) (drop place mask)))

-- ---- levels

-- how many times 2 is in a number: where it is even, once more than in its half
twos_even : (d z : ℕ) → z % 2 ≡ 0 → twos_in (suc d) z ≡ suc (twos_in d (z / 2))
twos_even d z e = cond-true (eqb (z % 2) 0) _ _ (eq-eqb (z % 2) 0 e)

twos_odd : (d z : ℕ) → z % 2 ≡ 1 → twos_in (suc d) z ≡ 0
twos_odd d z e = cond-false (eqb (z % 2) 0) _ _ (ne_eqb (z % 2) 0 (λ f. omega arith))

half_below : (d z : ℕ) → z < 2 ^ suc d → z / 2 < 2 ^ d
half_below d z s = let p : 2 ^ suc d ≡ 2 ^ d * 2 = pow-suc 2 d in omega arith

half_mod : (z k : ℕ) → z % 2 ≡ 0 → z % 2 ^ suc k ≡ (z / 2 % 2 ^ k) * 2
half_mod z k e =
    let m : z % 2 ^ (k + 1) ≡ (z / 2 % 2 ^ k) * 2 + z % 2 = mod-pow-add z k 1 in
    let n : z % 2 ^ suc k ≡ (z / 2 % 2 ^ k) * 2 + z % 2 = rw add-one at m in omega arith

-- never more often than there are digits
pub twos_in-le : (d z : ℕ) → twos_in d z ≤ d
twos_in-le zero z = omega arith
twos_in-le (suc d) z =
    elim (cases_eq (z % 2) 0) [
      | inl e ↦ rw (twos_even d z e) (omega (arith, twos_in-le d (z / 2)))
      | inr n ↦ rw (twos_odd d z (omega arith)) (omega arith)
    ]

-- a number above 0 that so many digits hold has 2 in it fewer times
pub twos_in-below : (d z : ℕ) → 0 < z → z < 2 ^ d → twos_in d z < d
twos_in-below zero z p s = omega arith
twos_in-below (suc d) z p s =
    elim (cases_eq (z % 2) 0) [
      | inl e ↦ rw (twos_even d z e) (omega (arith, twos_in-below d (z / 2) (omega arith) (half_below d z s)))
      | inr n ↦ rw (twos_odd d z (omega arith)) (omega arith)
    ]

-- a processor's count of trailing zeros, at any width that holds the number
pub trailing_twos : (d w z : ℕ) → d ≤ w → 0 < z → z < 2 ^ d → count_trailing_zeros w z ≡ twos_in d z
unfolding count_trailing_zeros
trailing_twos zero w z l p s = absurd (omega arith)
trailing_twos (suc d) zero z l p s = absurd (omega arith)
trailing_twos (suc d) (suc w) z l p s =
    elim (cases_eq (z % 2) 0) [
      | inl e ↦ rw (twos_even d z e) (rw e (ap suc (trailing_twos d w (z / 2) (omega arith) (omega arith) (half_below d z s))))
      | inr n ↦ let odd : z % 2 ≡ 1 = omega arith in rw (twos_odd d z odd) (rw odd refl)
    ]

-- 2 to the times that it is in a number divides it, and one time more does not
pub twos_in-divides : (d z : ℕ) → z % 2 ^ twos_in d z ≡ 0
twos_in-divides zero z = omega arith
twos_in-divides (suc d) z =
    elim (cases_eq (z % 2) 0) [
      | inl e ↦ rw (twos_even d z e) (omega (arith, half_mod z (twos_in d (z / 2)) e, twos_in-divides d (z / 2)))
      | inr n ↦ rw (twos_odd d z (omega arith)) (omega arith)
    ]

pub twos_in-greatest : (d z : ℕ) → 0 < z → z < 2 ^ d → z % 2 ^ suc (twos_in d z) ≢ 0
twos_in-greatest zero z p s = absurd (omega arith)
twos_in-greatest (suc d) z p s =
    elim (cases_eq (z % 2) 0) [
      | inl e ↦ rw (twos_even d z e) (λ f. twos_in-greatest d (z / 2) (omega arith) (half_below d z s) (omega (arith, half_mod z (suc (twos_in d (z / 2))) e)))
      | inr n ↦ rw (twos_odd d z (omega arith)) (λ f. omega arith)
    ]

-- the level as the code computes it, and what is true of each level
pub level_value : (digits w z : ℕ) → digits ≤ w → 0 < z → z < 2 ^ digits → (count_trailing_zeros w z ≤ digits) × (digits - count_trailing_zeros w z ≡ level_at digits z)
level_value digits w z l p s = rw (trailing_twos digits w z l p s) (twos_in-le digits z, refl)

pub level_origin : (digits z level : ℕ) → z < 2 ^ digits → level ≡ level_at digits z → (level ≡ 0) ↔ (z ≡ 0)
level_origin digits z level s e = (
  λ none. elim (cases_lt 0 z) [
    | inl p ↦ absurd (omega (arith, twos_in-below digits z p s))
    | inr n ↦ omega arith
  ],
  λ none. let all : twos_in digits z ≡ digits = rw none (twos_in-zero digits) in omega arith,
)

pub level_divides : (digits z level : ℕ) → level ≡ level_at digits z → z % 2 ^ (digits - level) ≡ 0
level_divides digits z level e =
    let twos : digits - level ≡ twos_in digits z = omega (arith, twos_in-le digits z) in
    rw twos (twos_in-divides digits z)

pub level_greatest : (digits z level : ℕ) → z < 2 ^ digits → level ≡ level_at digits z → 0 < z → z % 2 ^ (digits - level + 1) ≢ 0
level_greatest digits z level s e p =
    let twos : digits - level + 1 ≡ suc (twos_in digits z) = omega (arith, twos_in-le digits z) in
    rw twos (twos_in-greatest digits z p s)

-- ---- the faults of a text

pub text_digits : (mask : List ℕ) → All (λ d. d < 5) mask → All IsMaskDigit (map (λ d. d + 48) mask)
text_digits mask h = All-map IsMaskDigit (λ d. d + 48) mask (All-weaker (λ d. d < 5) (λ d. IsMaskDigit (d + 48)) (λ d l. (omega arith, omega arith)) mask h)

-- a text with a bad digit is no mask's
pub bad_no_text : (bytes mask : List ℕ) (place : ℕ) → IsFirstBad bytes place → IsMask mask → bytes ≡ map (λ d. d + 48) mask → ⊥
bad_no_text bytes mask place h m e =
    h.bad (All-get_or IsMaskDigit bytes place 0 h.within (All-same IsMaskDigit bytes (map (λ d. d + 48) mask) e (text_digits mask m.digits)))

mask_back : (mask : List ℕ) → map (λ byte. byte - 48) (map (λ d. d + 48) mask) ≡ mask
mask_back [] = refl
mask_back (d ∷ ds) = let e : d + 48 - 48 ≡ d = omega arith in rw (e, mask_back ds) refl

-- a text has one mask
pub text_once : (a b : List ℕ) → map (λ d. d + 48) a ≡ map (λ d. d + 48) b → a ≡ b
text_once a b e = sym (mask_back a) ∙ ap (map (λ byte. byte - 48)) e ∙ mask_back b

pub text_whole : (text mask : List ℕ) → 1 ≤ length text → get_or text 0 0 ≡ 86 → map (λ d. d + 48) mask ≡ take (length text - 1) (drop 1 text) → text ≡ mask_text mask
text_whole [] mask some letter e = absurd (omega arith)
text_whole (byte ∷ bytes) mask some letter e =
    let rest : map (λ d. d + 48) mask ≡ bytes = e ∙ take_rest (byte ∷ bytes) 1 in cc
