-- How many coordinates of an axis are coarse.
use Rattle.std.proofs.Common.{◌≡◌, ℕ, zero, suc, ◌+◌, ◌*◌, ◌/◌, ◌%◌, ◌<◌, ◌≤◌, Bool, true, false, cond, eqb, [], ◌∷◌, length, filter, refl, sym, ap, ◌∙◌, arith, length-append, inl, inr}
use Rattle.std.specs.List.{range_with_len}
use Rattle.std.specs.Int.{div_ceil}
use Rattle.std.proofs.lemmas.Bool.{eqb-true, eqb-false, cases_lt}
use Rattle.std.proofs.lemmas.List.Elements.{filter-append}
use Rattle.std.proofs.lemmas.List.Sums.{length-filter, count_by-le-length}
use Rattle.std.proofs.lemmas.List.FromFn.{length-range_with_len}
use Rattle.std.proofs.lemmas.Nat.{div-mul-add, mod-mul-add, div-add-mod', mod_below}
use Rattle.idx_stride.specs.declared.axis.Axis.{Axis}
use Rattle.idx_stride.specs.Counts.{coarse_coordinates}
use Rattle.idx_stride.specs.Places.{is_coarse}
use Rattle.idx_stride.proofs.RangeLemmas.{range-append}

-- a quotient, rounded up
div_ceil-exact : (q r : ℕ) → 1 ≤ r → div_ceil (q * r) r ≡ q
div_ceil-exact q r some =
    let same : q * r + 0 ≡ q * r = omega arith in
    let quotient : q * r / r ≡ q = ap (λ n. n / r) (sym same) ∙ div-mul-add q r 0 some in
    let rest : q * r % r ≡ 0 = ap (λ n. n % r) (sym same) ∙ mod-mul-add q r 0 some in
    omega arith

div_ceil-above : (q r t : ℕ) → 1 ≤ t → t ≤ r → div_ceil (q * r + t) r ≡ q + 1
div_ceil-above q r t some most =
    elim (cases_lt t r) [
      | inl less ↦
          let quotient : (q * r + t) / r ≡ q = div-mul-add q r t less in
          let rest : (q * r + t) % r ≡ t = mod-mul-add q r t less in
          omega arith
      | inr full ↦
          let whole : q * r + t ≡ (q + 1) * r = omega arith in
          ap (λ n. div_ceil n r) whole ∙ div_ceil-exact (q + 1) r (omega arith)
    ]

-- one more number is one multiple more, or none
div_ceil-more : (m r : ℕ) → 1 ≤ r → div_ceil (m + 1) r ≡ div_ceil m r + cond (eqb (m % r) 0) 1 0
div_ceil-more m r some =
    let split : m / r * r + m % r ≡ m = div-add-mod' m r in
    let below : m % r < r = mod_below m r some in
    let F : Bool → Type 0 = λ b. eqb (m % r) 0 ≡ b → div_ceil (m + 1) r ≡ div_ceil m r + cond b 1 0 in
    let by_rest : F (eqb (m % r) 0) = elim (eqb (m % r) 0) as (λ b. F b) [
      | true ↦ (λ e.
          let none : m % r ≡ 0 = eqb-true (m % r) 0 e in
          let whole : m ≡ m / r * r = omega arith in
          let more : m + 1 ≡ m / r * r + 1 = omega arith in
          ap (λ n. div_ceil n r) more
          ∙ div_ceil-above (m / r) r 1 (omega arith) some
          ∙ ap (λ n. n + 1) (sym (ap (λ n. div_ceil n r) whole ∙ div_ceil-exact (m / r) r some)))
      | false ↦ (λ e.
          let some_rest : 1 ≤ m % r = elim (cases_lt 0 (m % r)) [ inl h ↦ h | inr h ↦ absurd (eqb-false (m % r) 0 e (omega arith)) ] in
          let more : m + 1 ≡ m / r * r + (m % r + 1) = omega arith in
          let same : m ≡ m / r * r + m % r = omega arith in
          ap (λ n. div_ceil n r) more
          ∙ div_ceil-above (m / r) r (m % r + 1) (omega arith) (omega arith)
          ∙ sym (ap (λ n. n + 0) (ap (λ n. div_ceil n r) same ∙ div_ceil-above (m / r) r (m % r) some_rest (omega arith)) ∙ omega arith))
    ] in
    by_rest refl

count-up_to : (a : Axis) → 1 ≤ a.ratio → (n : ℕ) → length (filter (is_coarse a) (range_with_len 0 n)) + div_ceil a.phase a.ratio ≡ div_ceil (a.phase + n) a.ratio
count-up_to a some zero = let same : a.phase ≡ a.phase + 0 = omega arith in omega (arith, ap (λ p. div_ceil p a.ratio) same)
count-up_to a some (suc n) =
    let one : suc n ≡ n + 1 = omega arith in
    let at_n : 0 + n ≡ n = omega arith in
    let last : length (filter (is_coarse a) ((0 + n) ∷ [])) ≡ cond (is_coarse a n) 1 0 =
    ap (λ k. length (filter (is_coarse a) (k ∷ []))) at_n
    ∙ elim (is_coarse a n) as (λ b. length (cond b (n ∷ []) []) ≡ cond b 1 0) [ true ↦ refl | false ↦ refl ] in
    let more : length (filter (is_coarse a) (range_with_len 0 (suc n))) ≡ length (filter (is_coarse a) (range_with_len 0 n)) + cond (is_coarse a n) 1 0 =
    ap (λ m. length (filter (is_coarse a) (range_with_len 0 m))) one
    ∙ ap (λ ks. length (filter (is_coarse a) ks)) (range-append 0 n 1)
    ∙ ap length (filter-append (is_coarse a) (range_with_len 0 n) ((0 + n) ∷ []))
    ∙ length-append (filter (is_coarse a) (range_with_len 0 n)) (filter (is_coarse a) ((0 + n) ∷ []))
    ∙ ap (λ k. length (filter (is_coarse a) (range_with_len 0 n)) + k) last in
    let next : a.phase + suc n ≡ a.phase + n + 1 = omega arith in
    let grown : div_ceil (a.phase + suc n) a.ratio ≡ div_ceil (a.phase + n) a.ratio + cond (is_coarse a n) 1 0 =
    ap (λ m. div_ceil m a.ratio) next ∙ div_ceil-more (a.phase + n) a.ratio some in
    omega (arith, count-up_to a some n)

pub count-coarse : (a : Axis) → 1 ≤ a.ratio → coarse_coordinates a + div_ceil a.phase a.ratio ≡ div_ceil (a.phase + a.count) a.ratio
count-coarse a some = count-up_to a some a.count

pub coarse-le-count : (a : Axis) → coarse_coordinates a ≤ a.count
coarse-le-count a =
    omega (arith, length-filter (is_coarse a) (range_with_len 0 a.count), count_by-le-length (is_coarse a) (range_with_len 0 a.count), length-range_with_len 0 a.count)
