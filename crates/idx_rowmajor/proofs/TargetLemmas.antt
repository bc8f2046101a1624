-- The row-major place has the bits of the address, each at its target.
use Rattle.std.proofs.Common.{◌≡◌, ◌≢◌, ℕ, zero, suc, ◌+◌, ◌-◌, ◌*◌, ◌/◌, ◌%◌, ◌^◌, ◌<◌, ◌≤◌, ◌⊎◌, List, [], ◌∷◌, length, drop, get_or, refl, sym, ap, ◌∙◌, inl, inr, ⊎_elim, arith}
use Rattle.std.specs.Int.{bit_at}
use Rattle.std.proofs.Math.Nat.{pow-suc}
use Rattle.std.proofs.Math.Pow.{pow_mono}
use Rattle.std.proofs.lemmas.Bool.{cases_lt, cases_eq}
use Rattle.std.proofs.lemmas.Nat.{pow_pos}
use Rattle.std.proofs.lemmas.Nat.Bits.{bit_at-lt, bit_at-suc, bit_at_lowest, bit_at-zero, bit_at_cat_low, bit_at_cat_high, bit_at_above, bit_at-pow_same, bit_at-pow_other}
use Rattle.std.proofs.lemmas.List.Elements.{All-get_or}
use Rattle.idx_hz.specs.Mask.{bit_count, NamesAxes}
use Rattle.idx_hz.specs.Address.{hz_at}
use Rattle.idx_hz.specs.Coordinate.{coordinate_at}
use Rattle.idx_hz.proofs.ZLemmas.{bit_count-same, coordinate_at-same, coordinate_at-other, coordinate_at-lt, bit_at-digit}
use Rattle.idx_hz.proofs.HzLemmas.{hz_at-odd, hz_at-zero}
use Rattle.idx_rowmajor.specs.Bits.{ArePlaces, Carries}
use Rattle.idx_rowmajor.specs.Reverse.{reversed, turned}
use Rattle.idx_rowmajor.proofs.ReverseLemmas.{reversed-lt, bit_at-reversed, reversed-twice, reversed-zero, reversed-highest, turned-at, turned-zero}
use Rattle.idx_rowmajor.specs.Digits.{rank_of_digits}
use Rattle.idx_rowmajor.specs.Targets.{first_place, target_of, AreTargets, AreMirrored}
use Rattle.idx_rowmajor.proofs.PlaceLemmas.{total, place_by, place_of-by}
use Rattle.idx_rowmajor.proofs.WindowLemmas.{rank_of_digits-lt, unrank, unrank-lt, rank_of_digits-unrank}

-- ---- the places of the axes

total-more : (f : ℕ → ℕ) (k n : ℕ) → total f k (suc n) ≡ total f k n + f (k + n)
total-more f k zero = omega (arith, ap f (let h : k + 0 ≡ k = omega arith in h))
total-more f k (suc n) = omega (arith, total-more f (k + 1) n, ap f (let h : k + 1 + n ≡ k + suc n = omega arith in h))

first_place-total : (digits : List ℕ) (axis : ℕ) → first_place digits axis ≡ total (λ a. bit_count a digits) 0 axis
first_place-total digits zero = refl
first_place-total digits (suc axis) =
    let here : 0 + axis ≡ axis = omega arith in
    omega (arith, first_place-total digits axis, total-more (λ a. bit_count a digits) 0 axis, ap (λ a. bit_count a digits) here)

-- a bit of a coordinate stands at the axis's place
bit_at-place_by : (f y : ℕ → ℕ) (k n m c : ℕ) → ((a : ℕ) → y a < 2 ^ f a) → m < n → c < f (k + m) → bit_at (place_by f y k n) (total f k m + c) ≡ bit_at (y (k + m)) c
bit_at-place_by f y k zero m c small within below = absurd (omega arith)
bit_at-place_by f y k (suc n) zero c small within below =
    let here : k + 0 ≡ k = omega arith in
    let inside : c < f k = omega (arith, ap f here) in
    let turned : y k + 2 ^ f k * place_by f y (k + 1) n ≡ place_by f y (k + 1) n * 2 ^ f k + y k = omega arith in
    let index : 0 + c ≡ c = omega arith in
    ap (λ i. bit_at (y k + 2 ^ f k * place_by f y (k + 1) n) i) index
    ∙ ap (λ v. bit_at v c) turned ∙ bit_at_cat_low (place_by f y (k + 1) n) (f k) (y k) c inside ∙ ap (λ a. bit_at (y a) c) (sym here)
bit_at-place_by f y k (suc n) (suc m) c small within below =
    let there : k + 1 + m ≡ k + suc m = omega arith in
    let inside : c < f (k + 1 + m) = omega (arith, ap f there) in
    let turned : y k + 2 ^ f k * place_by f y (k + 1) n ≡ place_by f y (k + 1) n * 2 ^ f k + y k = omega arith in
    let index : f k + total f (k + 1) m + c - f k ≡ total f (k + 1) m + c = omega arith in
    ap (λ v. bit_at v (f k + total f (k + 1) m + c)) turned
    ∙ bit_at_cat_high (place_by f y (k + 1) n) (f k) (y k) (f k + total f (k + 1) m + c) (small k) (omega arith)
    ∙ ap (bit_at (place_by f y (k + 1) n)) index
    ∙ bit_at-place_by f y (k + 1) n m c small (omega arith) inside
    ∙ ap (λ a. bit_at (y a) c) there

-- ---- the bits of a coordinate

bit_count-behind : (digits : List ℕ) (i : ℕ) → i < length digits → bit_count (get_or digits i 0) (drop (suc i) digits) < bit_count (get_or digits i 0) digits
bit_count-behind [] i within = absurd (omega arith)
bit_count-behind (d ∷ finer) zero within = rw (bit_count-same d d finer refl) (omega arith)
bit_count-behind (d ∷ finer) (suc i) within = omega (arith, bit_count-behind finer i (omega arith))

bit_at-coordinate : (digits : List ℕ) (i t : ℕ) → i < length digits → bit_at (coordinate_at digits (get_or digits i 0) t) (bit_count (get_or digits i 0) (drop (suc i) digits)) ≡ bit_at t (length digits - 1 - i)
bit_at-coordinate [] i t within = absurd (omega arith)
bit_at-coordinate (d ∷ finer) zero t within =
    let place : length (d ∷ finer) - 1 - 0 ≡ length finer = omega arith in
    ap (λ v. bit_at v (bit_count d finer)) (coordinate_at-same d d finer t refl)
    ∙ bit_at-digit (bit_at t (length finer)) (bit_count d finer) (coordinate_at finer d t) (bit_at-lt t (length finer)) (coordinate_at-lt finer d t)
    ∙ ap (bit_at t) (sym place)
bit_at-coordinate (d ∷ finer) (suc i) t within =
    let a : ℕ = get_or finer i 0 in
    let inside : i < length finer = omega arith in
    let place : length (d ∷ finer) - 1 - suc i ≡ length finer - 1 - i = omega arith in
    let rest : bit_at (coordinate_at finer a t) (bit_count a (drop (suc i) finer)) ≡ bit_at t (length finer - 1 - i) = bit_at-coordinate finer i t inside in
    ⊎_elim
    (λ (same : d ≡ a).
    ap (λ v. bit_at v (bit_count a (drop (suc i) finer))) (coordinate_at-same d a finer t same)
    ∙ bit_at_cat_low (bit_at t (length finer)) (bit_count a finer) (coordinate_at finer a t) (bit_count a (drop (suc i) finer)) (bit_count-behind finer i inside)
    ∙ rest ∙ ap (bit_at t) (sym place))
    (λ (other : d ≢ a).
    ap (λ v. bit_at v (bit_count a (drop (suc i) finer))) (coordinate_at-other d a finer t other)
    ∙ rest ∙ ap (bit_at t) (sym place))
    (cases_eq d a)

-- ---- the bits of the rank

pub bit_at-rank : (digits : List ℕ) (axes t j : ℕ) → NamesAxes digits axes → j < length digits → bit_at (rank_of_digits digits axes t) (target_of digits j) ≡ bit_at t j
bit_at-rank digits axes t j named within =
    let i : ℕ = length digits - 1 - j in
    let inside : i < length digits = omega arith in
    let axis : ℕ = get_or digits i 0 in
    let small : axis < axes = All-get_or (λ d. d < axes) digits i 0 inside named in
    let f : ℕ → ℕ = λ a. bit_count a digits in
    let y : ℕ → ℕ = λ a. coordinate_at digits a t in
    let c : ℕ = bit_count axis (drop (suc i) digits) in
    let next : length digits - j ≡ suc i = omega arith in
    let target : target_of digits j ≡ total f 0 axis + c = ap (λ n. first_place digits axis + bit_count axis (drop n digits)) next ∙ ap (λ n. n + c) (first_place-total digits axis) in
    let here : 0 + axis ≡ axis = omega arith in
    let below : c < f (0 + axis) = omega (arith, bit_count-behind digits i inside, ap f here) in
    let place : length digits - 1 - i ≡ j = omega arith in
    ap (bit_at (rank_of_digits digits axes t)) target
    ∙ ap (λ v. bit_at v (total f 0 axis + c)) (place_of-by f y 0 axes)
    ∙ bit_at-place_by f y 0 axes axis c (λ a. coordinate_at-lt digits a t) small below
    ∙ ap (λ a. bit_at (y a) c) here
    ∙ bit_at-coordinate digits i t inside
    ∙ ap (bit_at t) place

coordinate-zero : (digits : List ℕ) (axis : ℕ) → coordinate_at digits axis 0 ≡ 0
coordinate-zero [] axis = refl
coordinate-zero (d ∷ finer) axis = ⊎_elim
    (λ (same : d ≡ axis). coordinate_at-same d axis finer 0 same ∙ omega (arith, ap (λ b. b * 2 ^ bit_count axis finer) (bit_at-zero (length finer)), coordinate-zero finer axis))
    (λ (other : d ≢ axis). coordinate_at-other d axis finer 0 other ∙ coordinate-zero finer axis)
    (cases_eq d axis)

place_by-zero : (f y : ℕ → ℕ) (k n : ℕ) → ((a : ℕ) → y a ≡ 0) → place_by f y k n ≡ 0
place_by-zero f y k zero none = refl
place_by-zero f y k (suc n) none = omega (arith, none k, ap (λ m. 2 ^ f k * m) (place_by-zero f y (k + 1) n none))

rank-zero : (digits : List ℕ) (axes : ℕ) → rank_of_digits digits axes 0 ≡ 0
rank-zero digits axes = place_of-by (λ a. bit_count a digits) (λ a. coordinate_at digits a 0) 0 axes ∙ place_by-zero (λ a. bit_count a digits) (λ a. coordinate_at digits a 0) 0 axes (coordinate-zero digits)

-- a number is 0 or has a bit
some_bit : (w t : ℕ) → t < 2 ^ w → (t ≡ 0) ⊎ ((i : ℕ) × (i < w) × (bit_at t i ≡ 1))
some_bit zero t small = inl (omega arith)
some_bit (suc w) t small =
    let half : t / 2 < 2 ^ w = omega (arith, pow-suc 2 w) in
    ⊎_elim
    (λ (even : t % 2 ≡ 0). ⊎_elim
    (λ (none : t / 2 ≡ 0). inl (omega arith))
    (λ (one : (i : ℕ) × (i < w) × (bit_at (t / 2) i ≡ 1)). inr (suc one.0, omega (arith, one.1), bit_at-suc t one.0 ∙ one.2))
    (some_bit w (t / 2) half))
    (λ (odd : t % 2 ≢ 0). inr (0, omega arith, bit_at_lowest t ∙ omega arith))
    (cases_eq (t % 2) 0)

-- each bit has a target of its own
pub ArePlaces-targets : (digits targets : List ℕ) (axes : ℕ) → NamesAxes digits axes → AreTargets (length digits) digits targets → ArePlaces (length digits) targets
ArePlaces-targets digits targets axes named are =
    let bits : ℕ = length digits in
    let at : (t j : ℕ) → j < bits → bit_at (rank_of_digits digits axes t) (get_or targets j 0) ≡ bit_at t j = λ t j within. ap (bit_at (rank_of_digits digits axes t)) (are j within) ∙ bit_at-rank digits axes t j named within in
    record {
      within = λ i inside. ⊎_elim
          (λ (less : get_or targets i 0 < bits). less)
          (λ (more : bits ≤ get_or targets i 0).
          let none : bit_at (rank_of_digits digits axes (2 ^ i)) (get_or targets i 0) ≡ 0 = bit_at_above (rank_of_digits digits axes (2 ^ i)) bits (get_or targets i 0) (rank_of_digits-lt digits axes (2 ^ i) named) more in
          let one : bit_at (rank_of_digits digits axes (2 ^ i)) (get_or targets i 0) ≡ 1 = at (2 ^ i) i inside ∙ bit_at-pow_same i in
          absurd (omega arith))
          (cases_lt (get_or targets i 0) bits);
      apart = λ i j less inside same.
          let one : bit_at (rank_of_digits digits axes (2 ^ i)) (get_or targets i 0) ≡ 1 = at (2 ^ i) i (omega arith) ∙ bit_at-pow_same i in
          let none : bit_at (rank_of_digits digits axes (2 ^ i)) (get_or targets j 0) ≡ 0 = at (2 ^ i) j inside ∙ bit_at-pow_other i j (λ e. omega arith) in
          let both : 1 ≡ 0 = sym one ∙ ap (bit_at (rank_of_digits digits axes (2 ^ i))) same ∙ none in
          omega arith;
      onto = λ m inside.
          let power : 2 ^ suc m ≤ 2 ^ bits = pow_mono inside in
          let few : 2 ^ m < 2 ^ bits = omega (arith, pow-suc 2 m, pow_pos m) in
          let t : ℕ = unrank digits axes (2 ^ m) in
          let back : rank_of_digits digits axes t ≡ 2 ^ m = rank_of_digits-unrank digits axes (2 ^ m) named few in
          ⊎_elim
          (λ (none : t ≡ 0).
          let nothing : 2 ^ m ≡ 0 = sym back ∙ ap (rank_of_digits digits axes) none ∙ rank-zero digits axes in
          absurd (omega (arith, pow_pos m)))
          (λ (one : (i : ℕ) × (i < bits) × (bit_at t i ≡ 1)). ⊎_elim
          (λ (same : get_or targets one.0 0 ≡ m). (one.0, one.1, same))
          (λ (other : get_or targets one.0 0 ≢ m).
          let none : bit_at (2 ^ m) (get_or targets one.0 0) ≡ 0 = bit_at-pow_other m (get_or targets one.0 0) other in
          let some : bit_at (2 ^ m) (get_or targets one.0 0) ≡ 1 = ap (λ v. bit_at v (get_or targets one.0 0)) (sym back) ∙ at t one.0 one.1 ∙ one.2 in
          absurd (omega arith))
          (cases_eq (get_or targets one.0 0) m))
          (some_bit bits t (unrank-lt digits axes (2 ^ m)));
    }

-- the rank carries the address
pub Carries-targets : (digits targets : List ℕ) (axes t : ℕ) → NamesAxes digits axes → AreTargets (length digits) digits targets → Carries (length digits) targets t (rank_of_digits digits axes t)
Carries-targets digits targets axes t named are = record {
  small = rank_of_digits-lt digits axes t named;
  each = λ j within. ap (bit_at (rank_of_digits digits axes t)) (are j within) ∙ bit_at-rank digits axes t j named within;
}

-- ---- the bits in reverse order

pub ArePlaces-mirrored : (bits : ℕ) (targets mirrored : List ℕ) → AreMirrored bits targets mirrored → ArePlaces bits targets → ArePlaces bits mirrored
ArePlaces-mirrored bits targets mirrored are places = record {
  within = λ i inside. rw (are i inside) (places.within (bits - 1 - i) (omega arith));
  apart = λ i j less inside same.
      let turned : get_or targets (bits - 1 - j) 0 ≡ get_or targets (bits - 1 - i) 0 = sym (are j inside) ∙ sym same ∙ are i (omega arith) in
      places.apart (bits - 1 - j) (bits - 1 - i) (omega arith) (omega arith) turned;
  onto = λ m inside.
      let at = places.onto m inside in
      let i : ℕ = bits - 1 - at.0 in
      let small : i < bits = omega (arith, at.1) in
      let back : bits - 1 - i ≡ at.0 = omega (arith, at.1) in
      (i, small, are i small ∙ ap (λ k. get_or targets k 0) back ∙ at.2);
}

pub Carries-mirrored : (bits : ℕ) (targets mirrored : List ℕ) (from to : ℕ) → AreMirrored bits targets mirrored → Carries bits targets (reversed bits from) to → Carries bits mirrored from to
Carries-mirrored bits targets mirrored from to are carried = record {
  small = carried.small;
  each = λ j within.
      let back : bits - 1 - (bits - 1 - j) ≡ j = omega arith in
      ap (bit_at to) (are j within) ∙ carried.each (bits - 1 - j) (omega arith) ∙ bit_at-reversed bits from (bits - 1 - j) (omega arith) ∙ ap (bit_at from) back;
}

-- ---- hierarchical addresses

pub highest_of : (n x : ℕ) → x < 2 ^ n → (x ≡ 0) ⊎ ((k : ℕ) × (k < n) × (2 ^ k ≤ x) × (x < 2 ^ suc k))
highest_of zero x small = inl (omega arith)
highest_of (suc n) x small = ⊎_elim
    (λ (low : x < 2 ^ n). ⊎_elim
    (λ (none : x ≡ 0). inl none)
    (λ (one : (k : ℕ) × (k < n) × (2 ^ k ≤ x) × (x < 2 ^ suc k)). inr (one.0, omega (arith, one.1), one.2, one.3))
    (highest_of n x low))
    (λ (high : 2 ^ n ≤ x). inr (n, omega arith, high, small))
    (cases_lt x (2 ^ n))

-- to reverse the bits below the highest 1, and then all bits, takes a hierarchical address to its Z address
pub hz_at-reversed_turned : (n x : ℕ) → x < 2 ^ n → hz_at n (reversed n (turned n x)) ≡ x
hz_at-reversed_turned n x small = ⊎_elim
    (λ (none : x ≡ 0).
    ap (λ m. hz_at n (reversed n (turned n m))) none ∙ ap (λ m. hz_at n (reversed n m)) (turned-zero n 1) ∙ ap (hz_at n) (reversed-zero n) ∙ hz_at-zero n ∙ sym none)
    (λ (one : (k : ℕ) × (k < n) × (2 ^ k ≤ x) × (x < 2 ^ suc k)).
    let k : ℕ = one.0 in
    let q : ℕ = n - suc k in
    let r : ℕ = x - 2 ^ k in
    let places : q + suc k ≡ n = omega (arith, one.1) in
    let few : r < 2 ^ k = omega (arith, one.2, one.3, pow-suc 2 k) in
    let at : turned n x ≡ 2 ^ k + reversed k r = ap (λ m. turned m x) (sym places) ∙ turned-at k x 1 q one.2 one.3 ∙ omega arith in
    let z : reversed n (turned n x) ≡ (2 * r + 1) * 2 ^ q =
    ap (reversed n) at ∙ ap (λ m. reversed m (2 ^ k + reversed k r)) (sym places)
    ∙ reversed-highest q k (reversed k r) (reversed-lt k r) ∙ ap (λ m. (2 * m + 1) * 2 ^ q) (reversed-twice k r few) in
    ap (hz_at n) z ∙ ap (λ m. hz_at m ((2 * r + 1) * 2 ^ q)) (sym places) ∙ hz_at-odd q k r ∙ omega (arith, one.2))
    (highest_of n x small)
