-- Bytes that should be zeros, part by part.
use Rattle.std.proofs.Common.{◌≡◌, ◌≢◌, ℕ, ◌+◌, ◌-◌, ◌*◌, ◌/◌, ◌<◌, ◌≤◌, false, List, length, take, drop, sym, ap, ◌∙◌, subst, ⊎_elim, arith, length-drop, length-take-le}
use Rattle.std.proofs.Math.Nat.{div-lt_iff_lt-mul, mul-add-div_right, mul_comm}
use Rattle.std.proofs.lemmas.Bool.{cases_lt}
use Rattle.std.specs.Prelude.{IfNone, IfSome, None, Option, Some, slice_index}
use Rattle.std.proofs.lemmas.List.{get_or-drop, get_or-take}
use Rattle.idx_check.specs.Stray.{IsClean, IsFirstStray, IsStray}
use Rattle.idx_check.specs.Wanted.{is_address_of}

-- the sample of a byte of a part
part_sample : (size m n k i : ℕ) → 1 ≤ size → n ≡ size * m → (k * n + i) / size ≡ k * m + i / size
part_sample size m n k i some whole =
    let whole_part : k * n ≡ k * m * size = grind (arith, whole) in
    ap (λ x. (x + i) / size) whole_part ∙ mul-add-div_right {m = size} some (k * m) i

module _ (mask : List ℕ) (box : List (ℕ × ℕ)) (size first sub k m n : ℕ) (text part : ℕ → ℕ) (some : 1 ≤ size) (whole : n ≡ size * m) (begins : sub ≡ first + k * m)
    (same : (i : ℕ) → i < n → part i ≡ text (k * n + i)) where
  sample_of : (i : ℕ) → first + (k * n + i) / size ≡ sub + i / size
  sample_of i =
      let there = part_sample size m n k i some whole in
      omega (arith, there, begins)

  -- a part more is clean
  pub clean_next : ((i : ℕ) → i < k * n → IsClean mask box size first text i) → ((i : ℕ) → i < n → IsClean mask box size sub part i) →
      (i : ℕ) → i < (k + 1) * n → IsClean mask box size first text i
  clean_next before clean i within = ⊎_elim
      (λ (less : i < k * n). before i less)
      (λ (more : k * n ≤ i).
      let j : ℕ = i - k * n in
      let there : k * n + j ≡ i = omega (arith, more) in
      let next : (k + 1) * n ≡ k * n + n = grind arith in
      let inside : j < n = omega (arith, within, more, next) in
      subst (λ (x : ℕ). IsClean mask box size first text x) there
      (λ outside. sym (same j inside) ∙ clean j inside (ap (is_address_of mask box) (sym (sample_of j)) ∙ outside)))
      (cases_lt i (k * n))

  -- the first stray byte of a part is that of all, where all before is clean
  pub stray_next : (count at : ℕ) → ((i : ℕ) → i < k * n → IsClean mask box size first text i) → k * n + n ≤ count → IsStray mask box size sub part n at →
      IsStray mask box size first text count (k * n + at)
  stray_next count at before room stray =
      record {
        within = omega (arith, room, stray.within);
        outside = ap (is_address_of mask box) (sample_of at) ∙ stray.outside;
        other = λ e. stray.other (same at stray.within ∙ e);
        before = λ i less. ⊎_elim
            (λ (low : i < k * n). before i low)
            (λ (more : k * n ≤ i).
            let j : ℕ = i - k * n in
            let there : k * n + j ≡ i = omega (arith, more) in
            let inside : j < at = omega (arith, less, more) in
            subst (λ (x : ℕ). IsClean mask box size first text x) there
            (λ outside. sym (same j (omega (arith, inside, stray.within))) ∙ stray.before j inside (ap (is_address_of mask box) (sym (sample_of j)) ∙ outside)))
            (cases_lt i (k * n));
      }

-- no sample is of the box: the first byte that is no zero
pub first_outside : (mask : List ℕ) (box : List (ℕ × ℕ)) (size first n : ℕ) (bytes : List ℕ) (found : Option ℕ) → 1 ≤ size → length bytes ≡ size * n →
    ((i : ℕ) → i < n → is_address_of mask box (first + i) ≡ false) →
    IfSome found (λ at. (at < length bytes) × (slice_index bytes at ≢ 0) × ((i : ℕ) → i < at → slice_index bytes i ≡ 0)) → IfNone found ((i : ℕ) → i < length bytes → slice_index bytes i ≡ 0) →
    IsFirstStray mask box size first (slice_index bytes) (length bytes) found
first_outside mask box size first n bytes None some whole all is none = λ i within outside. none i within
first_outside mask box size first n bytes (Some at) some whole all is none =
    record {
      within = is.0;
      outside = all (at / size) ((div-lt_iff_lt-mul {k = size} {x = at} {y = n} some).1 (omega (arith, is.0, whole, mul_comm size n)));
      other = is.1;
      before = λ i less outside. is.2 i less;
    }

-- ---- halves

-- a run of samples by its halves, of so many addresses
module _ (mask : List ℕ) (box : List (ℕ × ℕ)) (size first sub n half : ℕ) (bytes low high : List ℕ) (some : 1 ≤ size) (half_is : half ≡ size * n) (whole : length bytes ≡ half + half)
    (front : low ≡ take half bytes) (back : high ≡ drop half bytes) (next : sub ≡ first + n) where
  low_long : length low ≡ half
  low_long = ap length front ∙ length-take-le half bytes (omega (arith, whole))

  high_long : length high ≡ half
  high_long = ap length back ∙ length-drop half bytes ∙ omega (arith, whole)

  low_same : (i : ℕ) → i < half → slice_index low i ≡ slice_index bytes i
  low_same i within = ap (λ (xs : List ℕ). slice_index xs i) front ∙ get_or-take half bytes i 0 within

  high_same : (i : ℕ) → i < half → slice_index high i ≡ slice_index bytes (1 * half + i)
  high_same i within =
      let one : half + i ≡ 1 * half + i = omega arith in
      ap (λ (xs : List ℕ). slice_index xs i) back ∙ get_or-drop half bytes i 0 ∙ ap (slice_index bytes) one

  begins : sub ≡ first + 1 * n
  begins = omega (arith, next)

  low_clean : ((i : ℕ) → i < length low → IsClean mask box size first (slice_index low) i) → (i : ℕ) → i < 1 * half → IsClean mask box size first (slice_index bytes) i
  low_clean clean i within = λ outside. sym (low_same i (omega (arith, within))) ∙ clean i (omega (arith, within, low_long)) outside

  -- what is found in the first half is the first
  pub in_low : (at : ℕ) → IsStray mask box size first (slice_index low) (length low) at → IsStray mask box size first (slice_index bytes) (length bytes) at
  in_low at stray =
      let inside : at < half = omega (arith, stray.within, low_long) in
      record {
        within = omega (arith, inside, whole);
        outside = stray.outside;
        other = λ e. stray.other (low_same at inside ∙ e);
        before = λ i less outside. sym (low_same i (omega (arith, less, inside))) ∙ stray.before i less outside;
      }

  -- what is found in the second half, where nothing is in the first
  pub in_high : (at : ℕ) → ((i : ℕ) → i < length low → IsClean mask box size first (slice_index low) i) → IsStray mask box size sub (slice_index high) (length high) at →
      IsStray mask box size first (slice_index bytes) (length bytes) (half + at)
  in_high at clean stray =
      let one : 1 * half + at ≡ half + at = omega arith in
      let found : IsStray mask box size sub (slice_index high) half at = subst (λ (m : ℕ). IsStray mask box size sub (slice_index high) m at) high_long stray in
      subst (λ (m : ℕ). IsStray mask box size first (slice_index bytes) (length bytes) m) one
      (stray_next mask box size first sub 1 n half (slice_index bytes) (slice_index high) some half_is begins high_same (length bytes) at (low_clean clean) (omega (arith, whole)) found)

  -- nothing is in both
  pub in_none : ((i : ℕ) → i < length low → IsClean mask box size first (slice_index low) i) → ((i : ℕ) → i < length high → IsClean mask box size sub (slice_index high) i) →
      (i : ℕ) → i < length bytes → IsClean mask box size first (slice_index bytes) i
  in_none clean later i within =
      let inside : (j : ℕ) → j < half → IsClean mask box size sub (slice_index high) j = λ j less. later j (omega (arith, less, high_long)) in
      clean_next mask box size first sub 1 n half (slice_index bytes) (slice_index high) some half_is begins high_same (low_clean clean) inside i (omega (arith, within, whole))
