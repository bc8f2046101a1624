-- The pairs of a box, which of them are dropped, and the region that the others make.
use Rattle.std.proofs.Common.{◌≡◌, ℕ, zero, suc, Bool, true, false, ◌+◌, ◌-◌, ◌*◌, ◌^◌, ◌<◌, ◌≤◌, ◌&&◌, ◌||◌, List, [], ◌∷◌, ◌++◌, length, take, drop, get_or, Option, Some, None, All, refl, sym, ap, ◌∙◌, arith, subst, lit<, inl, inr, append_assoc, append-nil}
use Rattle.std.specs.Prelude.{◌==◌, not, nat_le, nat_lt, option_and_then}
use Rattle.std.specs.List.{list_all, zip}
use Rattle.std.proofs.lemmas.Bool.{cases_eq, cases_lt, cases_Bool, cond-true, cond-false, eq-eqb}
use Rattle.std.proofs.lemmas.Bool.Decides.{nat_tests}
use Rattle.std.proofs.lemmas.List.Elements.{All-cons, All-nil, All-head, All-tail, All-weaker, All-map, All-same}
use Rattle.std.proofs.lemmas.List.{length-map}
use Rattle.std.proofs.lemmas.Option.{same_Some}
use Rattle.std.proofs.lemmas.Nat.{pow-add}
use Rattle.std.proofs.Math.Nat.{pow-le-pow_right, mul-le-mul_left, mul-le-mul_right}
use Rattle.idx_geom.specs.Point.{IsAxes, IsCoordinates}
use Rattle.idx_geom.specs.Region.{AreEnds, IsRegion, extent, points, lower_ends, upper_ends}
use Rattle.idx_geom.proofs.PointsLemmas.{size, length-points}
use Rattle.idx_hz.specs.Mask.{IsMask, NamesAxes, HasAddress, bit_count}
use Rattle.idx_hz.proofs.MaskLemmas.{bit_count-le}
use Rattle.idx_hz.specs.MaskText.{mask_of}
use Rattle.idx_text.specs.Numbers.{numbers_of}
use Rattle.idx_text.specs.declared.section.Section.{Section}
use Rattle.idx_header.specs.declared.header_fault.HeaderFault.{HeaderFault}
use Rattle.idx_header.specs.declared.header_kind.HeaderKind.{HeaderKind}
use Rattle.idx_header.specs.declared.header_kind.HeaderKind.TheVariants as kinds
use Rattle.idx_header.specs.Faults.{bad_box, bad_mask, box_outside_mask, fault_where, first_of, is_none, mask_in, or_else, pairs_in}
use Rattle.idx_header.specs.Box.{pairs_of, by_twos, make_box, checked_box, names_pairs, fits_from, spare_from, kept_from, box_of}

pub both-true : (a b : Bool) → (a && b) ≡ true → (a ≡ true) × (b ≡ true)
both-true false b h = cc
both-true true b h = (refl, h)

-- ---- the spare pairs

-- the first pair is spare, and all behind it are
pub spare-cons : (axis : ℕ) (pair : ℕ × ℕ) (pairs : List (ℕ × ℕ)) (mask : List ℕ) →
    spare_from axis (pair ∷ pairs) mask ≡ (spare_from axis (pair ∷ []) mask && spare_from (axis + 1) pairs mask)
spare-cons axis pair pairs mask = last ((pair.0 == 0) && (pair.1 == 0) && nat_le 2 axis && (bit_count axis mask == 0)) (spare_from (axis + 1) pairs mask)
  where
    last : (a b : Bool) → (a && b) ≡ ((a && true) && b)
    last false b = refl
    last true b = refl

-- what is true of a spare pair
pub record IsSpare (axis : ℕ) (mask : List ℕ) : Type 0 where
  pub behind : 2 ≤ axis
  pub unnamed : bit_count axis mask ≡ 0

pub spare_means : (axis : ℕ) (pair : ℕ × ℕ) (pairs : List (ℕ × ℕ)) (mask : List ℕ) → spare_from axis (pair ∷ pairs) mask ≡ true → IsSpare axis mask
spare_means axis pair pairs mask h =
    let zeros : Bool = (pair.0 == 0) && (pair.1 == 0) in
    let a = both-true (zeros && nat_le 2 axis && (bit_count axis mask == 0)) (spare_from (axis + 1) pairs mask) h in
    let b = both-true (zeros && nat_le 2 axis) (bit_count axis mask == 0) a.0 in
    let c = both-true zeros (nat_le 2 axis) b.0 in
    record { behind = grind (arith, nat_tests, c.1); unnamed = grind (arith, nat_tests, b.1) }

spare_rest : (axis : ℕ) (pair : ℕ × ℕ) (pairs : List (ℕ × ℕ)) (mask : List ℕ) → spare_from axis (pair ∷ pairs) mask ≡ true → spare_from (axis + 1) pairs mask ≡ true
spare_rest axis pair pairs mask h = (both-true (spare_from axis (pair ∷ []) mask) _ (sym (spare-cons axis pair pairs mask) ∙ h)).1

-- no digit names an axis whose pair is spare
spare_unnamed : (axis d : ℕ) (pairs : List (ℕ × ℕ)) (mask : List ℕ) → spare_from axis pairs mask ≡ true → axis ≤ d → d < axis + length pairs → bit_count d mask ≡ 0
spare_unnamed axis d [] mask h low high = absurd (omega arith)
spare_unnamed axis d (pair ∷ pairs) mask h low high =
    elim (cases_eq axis d) [
      | inl e ↦ subst (λ (n : ℕ). bit_count n mask ≡ 0) e (spare_means axis pair pairs mask h).unnamed
      | inr n ↦ spare_unnamed (axis + 1) d pairs mask (spare_rest axis pair pairs mask h) (omega arith) (omega arith)
    ]

-- ---- the pairs that stay

dropped : (axis : ℕ) (pair : ℕ × ℕ) (pairs : List (ℕ × ℕ)) (mask : List ℕ) → spare_from axis (pair ∷ pairs) mask ≡ true → kept_from axis (pair ∷ pairs) mask ≡ []
dropped axis pair pairs mask h = cond-true (spare_from axis (pair ∷ pairs) mask) [] (pair ∷ kept_from (axis + 1) pairs mask) h

stays : (axis : ℕ) (pair : ℕ × ℕ) (pairs : List (ℕ × ℕ)) (mask : List ℕ) → spare_from axis (pair ∷ pairs) mask ≡ false →
    kept_from axis (pair ∷ pairs) mask ≡ pair ∷ kept_from (axis + 1) pairs mask
stays axis pair pairs mask h = cond-false (spare_from axis (pair ∷ pairs) mask) [] (pair ∷ kept_from (axis + 1) pairs mask) h

pub kept_none : (axis : ℕ) (pairs : List (ℕ × ℕ)) (mask : List ℕ) → spare_from axis pairs mask ≡ true → kept_from axis pairs mask ≡ []
kept_none axis [] mask h = refl
kept_none axis (pair ∷ pairs) mask h = dropped axis pair pairs mask h

-- all pairs from one on are spare, and the one before it is not: those before it stay
spare_at : (axis k : ℕ) (pairs : List (ℕ × ℕ)) (mask : List ℕ) → k < length pairs → spare_from axis pairs mask ≡ true →
    spare_from (axis + k) (get_or pairs k (0, 0) ∷ []) mask ≡ true
spare_at axis k [] mask l h = absurd (omega arith)
spare_at axis zero (pair ∷ pairs) mask l h =
    let same : axis + zero ≡ axis = omega arith in
    rw same ((both-true (spare_from axis (pair ∷ []) mask) _ (sym (spare-cons axis pair pairs mask) ∙ h)).0)
spare_at axis (suc k) (pair ∷ pairs) mask l h =
    let same : axis + suc k ≡ axis + 1 + k = omega arith in
    rw same (spare_at (axis + 1) k pairs mask (omega arith) (spare_rest axis pair pairs mask h))

pub kept_take : (axis k : ℕ) (pairs : List (ℕ × ℕ)) (mask : List ℕ) → k ≤ length pairs → spare_from (axis + k) (drop k pairs) mask ≡ true →
    ((j : ℕ) → k ≡ suc j → spare_from (axis + j) (get_or pairs j (0, 0) ∷ []) mask ≡ false) → kept_from axis pairs mask ≡ take k pairs
kept_take axis zero pairs mask l h last =
    let same : axis + zero ≡ axis = omega arith in
    kept_none axis pairs mask (subst (λ (n : ℕ). spare_from n pairs mask ≡ true) same h)
kept_take axis (suc k) [] mask l h last = absurd (omega arith)
kept_take axis (suc k) (pair ∷ pairs) mask l h last =
    let same : axis + suc k ≡ axis + 1 + k = omega arith in
    elim (cases_Bool (spare_from axis (pair ∷ pairs) mask)) [
      | inl t ↦ absurd (two (spare_from (axis + k) (get_or (pair ∷ pairs) k (0, 0) ∷ []) mask) (spare_at axis k (pair ∷ pairs) mask (omega arith) t) (last k refl))
      | inr f ↦ stays axis pair pairs mask f ∙ ap (λ t. pair ∷ t) (kept_take (axis + 1) k pairs mask (omega arith)
          (subst (λ (n : ℕ). spare_from n (drop k pairs) mask ≡ true) same h)
          (λ j e.
          let before : axis + k ≡ axis + 1 + j = omega arith in
          let here : spare_from (axis + k) (get_or (pair ∷ pairs) k (0, 0) ∷ []) mask ≡ false = last k refl in
          let there : spare_from (axis + 1 + j) (get_or (pair ∷ pairs) k (0, 0) ∷ []) mask ≡ false = subst (λ (n : ℕ). spare_from n (get_or (pair ∷ pairs) k (0, 0) ∷ []) mask ≡ false) before here in
          subst (λ (n : ℕ). spare_from (axis + 1 + j) (get_or (pair ∷ pairs) n (0, 0) ∷ []) mask ≡ false) e there))
    ]
  where
    two : (b : Bool) → b ≡ true → b ≡ false → ⊥
    two b t f = cc

-- the same from the first pair on
pub kept_front : (k : ℕ) (pairs : List (ℕ × ℕ)) (mask : List ℕ) → k ≤ length pairs → spare_from k (drop k pairs) mask ≡ true →
    (0 < k → spare_from (k - 1) (get_or pairs (k - 1) (0, 0) ∷ []) mask ≡ false) → take k pairs ≡ box_of pairs mask
unfolding box_of
kept_front k pairs mask l h last =
    let same : k ≡ 0 + k = omega arith in
    sym (kept_take 0 k pairs mask l (subst (λ (n : ℕ). spare_from n (drop k pairs) mask ≡ true) same h)
    (λ j e.
    let before : k - 1 ≡ j = omega arith in
    let first : j ≡ 0 + j = omega arith in
    let there : spare_from j (get_or pairs j (0, 0) ∷ []) mask ≡ false =
    subst (λ (n : ℕ). spare_from n (get_or pairs n (0, 0) ∷ []) mask ≡ false) before (last (omega arith)) in
    subst (λ (n : ℕ). spare_from n (get_or pairs j (0, 0) ∷ []) mask ≡ false) first there))

-- dropping again drops nothing
spare-kept : (axis : ℕ) (pairs : List (ℕ × ℕ)) (mask : List ℕ) → spare_from axis (kept_from axis pairs mask) mask ≡ spare_from axis pairs mask
spare-kept axis [] mask = refl
spare-kept axis (pair ∷ pairs) mask =
    elim (cases_Bool (spare_from axis (pair ∷ pairs) mask)) [
      | inl t ↦ ap (λ ps. spare_from axis ps mask) (dropped axis pair pairs mask t) ∙ sym t
      | inr f ↦ ap (λ ps. spare_from axis ps mask) (stays axis pair pairs mask f)
          ∙ spare-cons axis pair (kept_from (axis + 1) pairs mask) mask
          ∙ ap (λ b. spare_from axis (pair ∷ []) mask && b) (spare-kept (axis + 1) pairs mask)
          ∙ sym (spare-cons axis pair pairs mask)
    ]

kept_again : (axis : ℕ) (pairs : List (ℕ × ℕ)) (mask : List ℕ) → kept_from axis (kept_from axis pairs mask) mask ≡ kept_from axis pairs mask
kept_again axis [] mask = refl
kept_again axis (pair ∷ pairs) mask =
    elim (cases_Bool (spare_from axis (pair ∷ pairs) mask)) [
      | inl t ↦ ap (λ ps. kept_from axis ps mask) (dropped axis pair pairs mask t) ∙ sym (dropped axis pair pairs mask t)
      | inr f ↦
          let is : kept_from axis (pair ∷ pairs) mask ≡ pair ∷ kept_from (axis + 1) pairs mask = stays axis pair pairs mask f in
          let still : spare_from axis (pair ∷ kept_from (axis + 1) pairs mask) mask ≡ false =
          ap (λ ps. spare_from axis ps mask) (sym is) ∙ spare-kept axis (pair ∷ pairs) mask ∙ f in
          ap (λ ps. kept_from axis ps mask) is ∙ stays axis pair (kept_from (axis + 1) pairs mask) mask still
          ∙ ap (λ t. pair ∷ t) (kept_again (axis + 1) pairs mask) ∙ sym is
    ]

-- two pairs stay, and no more than there are
kept_some : (axis : ℕ) (pairs : List (ℕ × ℕ)) (mask : List ℕ) → 2 ≤ axis + length pairs → 2 ≤ axis + length (kept_from axis pairs mask)
kept_some axis [] mask h = h
kept_some axis (pair ∷ pairs) mask h =
    elim (cases_Bool (spare_from axis (pair ∷ pairs) mask)) [
      | inl t ↦ omega (arith, (spare_means axis pair pairs mask t).behind)
      | inr f ↦ omega (arith, ap length (stays axis pair pairs mask f), kept_some (axis + 1) pairs mask (omega arith))
    ]

kept_few : (axis : ℕ) (pairs : List (ℕ × ℕ)) (mask : List ℕ) → length (kept_from axis pairs mask) ≤ length pairs
kept_few axis [] mask = omega arith
kept_few axis (pair ∷ pairs) mask =
    elim (cases_Bool (spare_from axis (pair ∷ pairs) mask)) [
      | inl t ↦ omega (arith, ap length (dropped axis pair pairs mask t))
      | inr f ↦ omega (arith, ap length (stays axis pair pairs mask f), kept_few (axis + 1) pairs mask)
    ]

-- what holds of each pair holds of those that stay
kept_all : (P : ℕ × ℕ → Type 0) (axis : ℕ) (pairs : List (ℕ × ℕ)) (mask : List ℕ) → All P pairs → All P (kept_from axis pairs mask)
kept_all P axis [] mask h = h
kept_all P axis (pair ∷ pairs) mask h =
    elim (cases_Bool (spare_from axis (pair ∷ pairs) mask)) [
      | inl t ↦ All-same P (kept_from axis (pair ∷ pairs) mask) [] (dropped axis pair pairs mask t) (All-nil P)
      | inr f ↦ All-same P (kept_from axis (pair ∷ pairs) mask) (pair ∷ kept_from (axis + 1) pairs mask) (stays axis pair pairs mask f)
          (All-cons P pair (kept_from (axis + 1) pairs mask) (All-head P pair pairs h) (kept_all P (axis + 1) pairs mask (All-tail P pair pairs h)))
    ]

-- an axis that a digit names stays
kept_named : (axis d : ℕ) (pairs : List (ℕ × ℕ)) (mask : List ℕ) → 1 ≤ bit_count d mask → d < axis + length pairs →
    d < axis + length (kept_from axis pairs mask)
kept_named axis d [] mask some h = h
kept_named axis d (pair ∷ pairs) mask some h =
    elim (cases_Bool (spare_from axis (pair ∷ pairs) mask)) [
      | inl t ↦ elim (cases_lt d axis) [
        | inl l ↦ omega arith
        | inr l ↦ absurd (omega (arith, spare_unnamed axis d (pair ∷ pairs) mask t l h))
      ]
      | inr f ↦ omega (arith, ap length (stays axis pair pairs mask f), kept_named (axis + 1) d pairs mask some (omega arith))
    ]

bit_count-some : (mask : List ℕ) (i d : ℕ) → i < length mask → 1 ≤ bit_count (get_or mask i d) mask
bit_count-some [] i d h = absurd (omega arith)
bit_count-some (x ∷ xs) zero d h = let same : (x == x) ≡ true = eq-eqb x x refl in rw same (omega arith)
bit_count-some (x ∷ xs) (suc i) d h = omega (arith, bit_count-some xs i d (omega arith))

kept_names : (pairs : List (ℕ × ℕ)) (mask : List ℕ) → NamesAxes mask (length pairs) → NamesAxes mask (length (kept_from 0 pairs mask))
kept_names pairs mask h =
    λ i d l.
    let small : get_or mask i d < length pairs = h i d l in
    let still : get_or mask i d < 0 + length (kept_from 0 pairs mask) = kept_named 0 (get_or mask i d) pairs mask (bit_count-some mask i d l) (omega arith) in
    omega arith

-- ---- the upper ends

fits_head : (axis : ℕ) (pair : ℕ × ℕ) (pairs : List (ℕ × ℕ)) (mask : List ℕ) → fits_from axis (pair ∷ pairs) mask ≡ true → pair.1 < 2 ^ bit_count axis mask
fits_head axis pair pairs mask h =
    let both = both-true (nat_lt pair.1 (2 ^ bit_count axis mask)) (fits_from (axis + 1) pairs mask) h in
    grind (arith, nat_tests, both.0)

fits_tail : (axis : ℕ) (pair : ℕ × ℕ) (pairs : List (ℕ × ℕ)) (mask : List ℕ) → fits_from axis (pair ∷ pairs) mask ≡ true → fits_from (axis + 1) pairs mask ≡ true
fits_tail axis pair pairs mask h = (both-true (nat_lt pair.1 (2 ^ bit_count axis mask)) (fits_from (axis + 1) pairs mask) h).1

fits_kept : (axis : ℕ) (pairs : List (ℕ × ℕ)) (mask : List ℕ) → fits_from axis pairs mask ≡ true → fits_from axis (kept_from axis pairs mask) mask ≡ true
fits_kept axis [] mask h = h
fits_kept axis (pair ∷ pairs) mask h =
    elim (cases_Bool (spare_from axis (pair ∷ pairs) mask)) [
      | inl t ↦ ap (λ ps. fits_from axis ps mask) (dropped axis pair pairs mask t)
      | inr f ↦ ap (λ ps. fits_from axis ps mask) (stays axis pair pairs mask f)
          ∙ ap (λ b. nat_lt pair.1 (2 ^ bit_count axis mask) && b) (fits_kept (axis + 1) pairs mask (fits_tail axis pair pairs mask h) ∙ sym (fits_tail axis pair pairs mask h))
          ∙ h
    ]

fits_below : (axis k : ℕ) (pairs : List (ℕ × ℕ)) (mask : List ℕ) → fits_from axis pairs mask ≡ true → k < length (upper_ends pairs) →
    get_or (upper_ends pairs) k 0 < 2 ^ bit_count (axis + k) mask
fits_below axis k [] mask h l = absurd (omega arith)
fits_below axis zero (pair ∷ pairs) mask h l =
    let same : axis + zero ≡ axis = omega arith in rw same (fits_head axis pair pairs mask h)
fits_below axis (suc k) (pair ∷ pairs) mask h l =
    let same : axis + suc k ≡ axis + 1 + k = omega arith in rw same (fits_below (axis + 1) k pairs mask (fits_tail axis pair pairs mask h) (omega arith))

fits_below-axis : (axis : ℕ) (pairs : List (ℕ × ℕ)) (mask : List ℕ) → fits_from 0 pairs mask ≡ true → axis < length (upper_ends pairs) →
    get_or (upper_ends pairs) axis 0 < 2 ^ bit_count axis mask
fits_below-axis axis pairs mask h l =
    let same : 0 + axis ≡ axis = omega arith in
    subst (λ (n : ℕ). get_or (upper_ends pairs) axis 0 < 2 ^ bit_count n mask) same (fits_below 0 axis pairs mask h l)

-- so many digits have at most 40 bits
pub pow_small : (axis : ℕ) (mask : List ℕ) → length mask ≤ 40 → 2 ^ bit_count axis mask ≤ 2 ^ 40
pow_small axis mask few = pow-le-pow_right (lit< tt) {i = bit_count axis mask} {j = 40} (omega (arith, bit_count-le axis mask))

fits_small : (axis : ℕ) (pairs : List (ℕ × ℕ)) (mask : List ℕ) → length mask ≤ 40 → fits_from axis pairs mask ≡ true → All (λ (b : ℕ × ℕ). b.1 < 2 ^ 40) pairs
fits_small axis [] mask few h = All-nil (λ (b : ℕ × ℕ). b.1 < 2 ^ 40)
fits_small axis (pair ∷ pairs) mask few h =
    let here : pair.1 < 2 ^ bit_count axis mask = fits_head axis pair pairs mask h in
    let most : 2 ^ bit_count axis mask ≤ 2 ^ 40 = pow_small axis mask few in
    All-cons (λ (b : ℕ × ℕ). b.1 < 2 ^ 40) pair pairs (omega arith) (fits_small (axis + 1) pairs mask few (fits_tail axis pair pairs mask h))

-- ---- the number of points

-- how many digits name one of so many axes from this one on
abbrev bits_from : ℕ → ℕ → List ℕ → ℕ
bits_from axis zero mask = 0
bits_from axis (suc n) mask = bit_count axis mask + bits_from (axis + 1) n mask

bits_none : (axis n : ℕ) → bits_from axis n [] ≡ 0
bits_none axis zero = refl
bits_none axis (suc n) = omega (arith, bits_none (axis + 1) n)

bits_lower : (axis n d : ℕ) (ds : List ℕ) → d < axis → bits_from axis n (d ∷ ds) ≡ bits_from axis n ds
bits_lower axis zero d ds l = refl
bits_lower axis (suc n) d ds l =
    let other : (d == axis) ≡ false = grind (arith, nat_tests) in
    let rest : bits_from (axis + 1) n (d ∷ ds) ≡ bits_from (axis + 1) n ds = bits_lower (axis + 1) n d ds (omega arith) in
    rw (other, rest) (omega arith)

bits_more : (axis n d : ℕ) (ds : List ℕ) → bits_from axis n (d ∷ ds) ≤ 1 + bits_from axis n ds
bits_more axis zero d ds = omega arith
bits_more axis (suc n) d ds =
    elim (cases_eq d axis) [
      | inl e ↦
          let same : (d == axis) ≡ true = grind (arith, nat_tests, e) in
          let rest : bits_from (axis + 1) n (d ∷ ds) ≡ bits_from (axis + 1) n ds = bits_lower (axis + 1) n d ds (omega arith) in
          rw (same, rest) (omega arith)
      | inr o ↦
          let other : (d == axis) ≡ false = grind (arith, nat_tests, o) in
          rw other (omega (arith, bits_more (axis + 1) n d ds))
    ]

bits_few : (axis n : ℕ) (mask : List ℕ) → bits_from axis n mask ≤ length mask
bits_few axis n [] = omega (arith, bits_none axis n)
bits_few axis n (d ∷ ds) = omega (arith, bits_more axis n d ds, bits_few axis n ds)

size_few : (axis : ℕ) (pairs : List (ℕ × ℕ)) (mask : List ℕ) → fits_from axis pairs mask ≡ true → size pairs ≤ 2 ^ bits_from axis (length pairs) mask
size_few axis [] mask h = omega arith
size_few axis (pair ∷ pairs) mask h =
    let here : pair.1 < 2 ^ bit_count axis mask = fits_head axis pair pairs mask h in
    let one : extent pair ≤ 2 ^ bit_count axis mask = omega arith in
    let rest : size pairs ≤ 2 ^ bits_from (axis + 1) (length pairs) mask = size_few (axis + 1) pairs mask (fits_tail axis pair pairs mask h) in
    let first : extent pair * size pairs ≤ 2 ^ bit_count axis mask * size pairs = mul-le-mul_right (size pairs) one in
    let second : 2 ^ bit_count axis mask * size pairs ≤ 2 ^ bit_count axis mask * 2 ^ bits_from (axis + 1) (length pairs) mask = mul-le-mul_left (2 ^ bit_count axis mask) rest in
    let whole : 2 ^ (bit_count axis mask + bits_from (axis + 1) (length pairs) mask) ≡ 2 ^ bit_count axis mask * 2 ^ bits_from (axis + 1) (length pairs) mask =
    pow-add 2 (bit_count axis mask) (bits_from (axis + 1) (length pairs) mask) in
    omega arith

points_few : (pairs : List (ℕ × ℕ)) (mask : List ℕ) → length mask ≤ 40 → fits_from 0 pairs mask ≡ true → length (points pairs) ≤ 2 ^ 40
points_few pairs mask few h =
    let most : 2 ^ bits_from 0 (length pairs) mask ≤ 2 ^ 40 =
    pow-le-pow_right (lit< tt) {i = bits_from 0 (length pairs) mask} {j = 40} (omega (arith, bits_few 0 (length pairs) mask)) in
    omega (arith, length-points pairs, size_few 0 pairs mask h)

-- ---- the region

in_order : (pairs : List (ℕ × ℕ)) → list_all (λ b. nat_le b.0 b.1) pairs ≡ true → All (λ (b : ℕ × ℕ). b.0 ≤ b.1) pairs
in_order [] h = All-nil (λ (b : ℕ × ℕ). b.0 ≤ b.1)
in_order (pair ∷ pairs) h =
    let both = both-true (nat_le pair.0 pair.1) (list_all (λ b. nat_le b.0 b.1) pairs) h in
    let here : pair.0 ≤ pair.1 = grind (arith, nat_tests, both.0) in
    All-cons (λ (b : ℕ × ℕ). b.0 ≤ b.1) pair pairs here (in_order pairs both.1)

-- what is true of the pairs of a box
pub record AreBoxPairs (pairs : List (ℕ × ℕ)) : Type 0 where
  pub some : 2 ≤ length pairs
  pub few : length pairs ≤ 5
  pub ordered : All (λ (b : ℕ × ℕ). b.0 ≤ b.1) pairs

pub box_pairs : (pairs : List (ℕ × ℕ)) → make_box pairs ≡ true → AreBoxPairs pairs
box_pairs pairs h =
    let a = both-true (nat_le 2 (length pairs) && nat_le (length pairs) 5) (list_all (λ b. nat_le b.0 b.1) pairs) h in
    let b = both-true (nat_le 2 (length pairs)) (nat_le (length pairs) 5) a.0 in
    record { some = grind (arith, nat_tests, b.0); few = grind (arith, nat_tests, b.1); ordered = in_order pairs a.1 }

-- what is true of the pairs that stay
pub record AreKept (kept : List (ℕ × ℕ)) (mask : List ℕ) : Type 0 where
  pub region : IsRegion kept
  pub small : All (λ (b : ℕ × ℕ). b.1 < 2 ^ 40) kept
  pub covered : HasAddress mask (upper_ends kept)
  pub whole : box_of kept mask ≡ kept

pub are_kept : (pairs : List (ℕ × ℕ)) (mask : List ℕ) → make_box pairs ≡ true → IsMask mask → NamesAxes mask (length pairs) →
    fits_from 0 pairs mask ≡ true → AreKept (box_of pairs mask) mask
unfolding box_of
are_kept pairs mask box valid named fits =
    let h : AreBoxPairs pairs = box_pairs pairs box in
    let some : 2 ≤ length pairs = h.some in
    let kept : List (ℕ × ℕ) = kept_from 0 pairs mask in
    let small : All (λ (b : ℕ × ℕ). b.1 < 2 ^ 40) kept = kept_all (λ (b : ℕ × ℕ). b.1 < 2 ^ 40) 0 pairs mask (fits_small 0 pairs mask valid.few fits) in
    let inside : fits_from 0 kept mask ≡ true = fits_kept 0 pairs mask fits in
    let count : length (upper_ends kept) ≡ length kept = length-map kept (λ (b : ℕ × ℕ). b.1) in
    record {
      region = record {
        axes = (omega (arith, some, kept_some 0 pairs mask (omega (arith, some))), omega (arith, kept_few 0 pairs mask, h.few));
        ordered = kept_all (λ (b : ℕ × ℕ). b.0 ≤ b.1) 0 pairs mask h.ordered;
        small = All-weaker (λ (b : ℕ × ℕ). b.1 < 2 ^ 40) (λ (b : ℕ × ℕ). b.1 ≤ 2 ^ 40) (λ b l. omega arith) kept small;
        few = points_few kept mask valid.few inside;
      };
      small = small;
      covered = record {
        named = subst (NamesAxes mask) (sym count) (kept_names pairs mask named);
        below = λ axis l. fits_below-axis axis kept mask inside l;
      };
      whole = kept_again 0 pairs mask;
    }

-- the ends of these pairs make their region
pub zip_ends : (pairs : List (ℕ × ℕ)) → zip (lower_ends pairs) (upper_ends pairs) ≡ pairs
zip_ends [] = refl
zip_ends (pair ∷ pairs) = ap (λ t. pair ∷ t) (zip_ends pairs)

pub record HasEnds (pairs : List (ℕ × ℕ)) : Type 0 where
  pub lower : IsCoordinates (lower_ends pairs)
  pub upper : IsCoordinates (upper_ends pairs)
  pub ends : AreEnds (lower_ends pairs) (upper_ends pairs)

lower_small : (pairs : List (ℕ × ℕ)) → All (λ (b : ℕ × ℕ). b.0 ≤ b.1) pairs → All (λ (b : ℕ × ℕ). b.1 < 2 ^ 40) pairs → All (λ (b : ℕ × ℕ). b.0 < 2 ^ 40) pairs
lower_small pairs ordered small = λ k d l. let a = ordered k d l in let b = small k d l in omega (arith, a, b)

pub has_ends : (pairs : List (ℕ × ℕ)) → IsRegion pairs → All (λ (b : ℕ × ℕ). b.1 < 2 ^ 40) pairs → HasEnds pairs
has_ends pairs h small =
    let lowers : length (lower_ends pairs) ≡ length pairs = length-map pairs (λ (b : ℕ × ℕ). b.0) in
    let uppers : length (upper_ends pairs) ≡ length pairs = length-map pairs (λ (b : ℕ × ℕ). b.1) in
    record {
      lower = record {
        axes = subst IsAxes (sym lowers) h.axes;
        small = All-map (λ x. x < 2 ^ 40) (λ (b : ℕ × ℕ). b.0) pairs (lower_small pairs h.ordered small);
      };
      upper = record { axes = subst IsAxes (sym uppers) h.axes; small = All-map (λ x. x < 2 ^ 40) (λ (b : ℕ × ℕ). b.1) pairs small };
      ends = record {
        same_axes = lowers ∙ sym uppers;
        ordered = All-same (λ (b : ℕ × ℕ). b.0 ≤ b.1) (zip (lower_ends pairs) (upper_ends pairs)) pairs (zip_ends pairs) h.ordered;
        few = subst (λ (ps : List (ℕ × ℕ)). length (points ps) ≤ 2 ^ 40) (sym (zip_ends pairs)) h.few;
      };
    }

-- ---- numbers by twos

-- these pairs in front of others, if there are others
abbrev pub in_front : List (ℕ × ℕ) → Option (List (ℕ × ℕ)) → Option (List (ℕ × ℕ))
in_front ps o = option_and_then (λ more. Some (ps ++ more)) o

pub none_in_front : (o : Option (List (ℕ × ℕ))) → in_front [] o ≡ o
none_in_front None = refl
none_in_front (Some ps) = refl

one_in_front : (ps : List (ℕ × ℕ)) (b : ℕ × ℕ) (o : Option (List (ℕ × ℕ))) →
    in_front (ps ++ b ∷ []) o ≡ in_front ps (option_and_then (λ more. Some (b ∷ more)) o)
one_in_front ps b None = refl
one_in_front ps b (Some more) = ap Some (append_assoc ps (b ∷ []) more)

pub twos_more : (ps : List (ℕ × ℕ)) (rest more : List ℕ) → 2 ≤ length rest → more ≡ drop 2 rest →
    in_front (ps ++ (get_or rest 0 0, get_or rest 1 0) ∷ []) (by_twos more) ≡ in_front ps (by_twos rest)
twos_more ps [] more some is = absurd (omega arith)
twos_more ps (lo ∷ []) more some is = absurd (omega arith)
twos_more ps (lo ∷ hi ∷ rest) more some is =
    ap (λ ns. in_front (ps ++ (lo, hi) ∷ []) (by_twos ns)) is ∙ one_in_front ps (lo, hi) (by_twos rest)

pub twos_end : (ps : List (ℕ × ℕ)) (rest : List ℕ) → length rest ≡ 0 → in_front ps (by_twos rest) ≡ Some ps
twos_end ps [] e = ap Some (append-nil ps)
twos_end ps (lo ∷ rest) e = absurd (omega arith)

pub twos_odd : (ps : List (ℕ × ℕ)) (rest : List ℕ) → length rest < 2 → (length rest ≡ 0 → ⊥) → in_front ps (by_twos rest) ≡ None
twos_odd ps [] short some = absurd (some refl)
twos_odd ps (lo ∷ []) short some = refl
twos_odd ps (lo ∷ hi ∷ rest) short some = absurd (omega arith)

-- there are two numbers for each pair
twos_count : (o : Option (List (ℕ × ℕ))) (b : ℕ × ℕ) (ps : List (ℕ × ℕ)) (n : ℕ) →
    ((qs : List (ℕ × ℕ)) → o ≡ Some qs → n ≡ length qs + length qs) →
    option_and_then (λ more. Some (b ∷ more)) o ≡ Some ps → 2 + n ≡ length ps + length ps
twos_count None b ps n h e = absurd (cc)
twos_count (Some qs) b ps n h e =
    let size : length (b ∷ qs) ≡ length ps = ap length (same_Some _ _ e) in
    omega (arith, h qs refl)

twos_length : (ns : List ℕ) (ps : List (ℕ × ℕ)) → by_twos ns ≡ Some ps → length ns ≡ length ps + length ps
twos_length [] ps e = let size : 0 ≡ length ps = ap length (same_Some _ _ e) in omega arith
twos_length (lo ∷ []) ps e = absurd (cc)
twos_length (lo ∷ hi ∷ rest) ps e =
    let count = twos_count (by_twos rest) (lo, hi) ps (length rest) (λ qs f. twos_length rest qs f) e in omega (arith, count)

large_box : (ps : List (ℕ × ℕ)) → 5 < length ps → make_box ps ≡ false
large_box ps h =
    let large : nat_le (length ps) 5 ≡ false = grind (arith, nat_tests, h) in
    second (nat_le 2 (length ps)) (nat_le (length ps) 5) (list_all (λ b. nat_le b.0 b.1) ps) large
  where
    second : (a b c : Bool) → b ≡ false → ((a && b) && c) ≡ false
    second false b c e = refl
    second true b c e = rw e refl

unless_box : (o : Option (List (ℕ × ℕ))) → ((ps : List (ℕ × ℕ)) → o ≡ Some ps → make_box ps ≡ false) → option_and_then checked_box o ≡ None
unless_box None h = refl
unless_box (Some ps) h = cond-false (make_box ps) (Some ps) None (h ps refl)

many_no_box : (o : Option (List ℕ)) → ((ns : List ℕ) → o ≡ Some ns → 10 < length ns) → option_and_then checked_box (option_and_then by_twos o) ≡ None
many_no_box None h = refl
many_no_box (Some ns) h =
    let many : 10 < length ns = h ns refl in
    unless_box (by_twos ns) (λ ps e. large_box ps (omega (arith, twos_length ns ps e)))

-- more than ten numbers, or no list of numbers, make no box
pub many_no_pairs : (text : List ℕ) → ((ns : List ℕ) → numbers_of text ≡ Some ns → 10 < length ns) → pairs_of text ≡ None
unfolding pairs_of
many_no_pairs text h = many_no_box (numbers_of text) h

listed : (text ns : List ℕ) → numbers_of text ≡ Some ns → pairs_of text ≡ option_and_then checked_box (by_twos ns)
unfolding pairs_of
listed text ns e = ap (λ o. option_and_then checked_box (option_and_then by_twos o)) e

pub odd_no_pairs : (text ns : List ℕ) → numbers_of text ≡ Some ns → by_twos ns ≡ None → pairs_of text ≡ None
odd_no_pairs text ns e f = listed text ns e ∙ ap (option_and_then checked_box) f

pub unordered_no_pairs : (text ns : List ℕ) (ps : List (ℕ × ℕ)) → numbers_of text ≡ Some ns → by_twos ns ≡ Some ps → make_box ps ≡ false → pairs_of text ≡ None
unordered_no_pairs text ns ps e f box = listed text ns e ∙ ap (option_and_then checked_box) f ∙ cond-false (make_box ps) (Some ps) None box

pub box_as_listed : (text ns : List ℕ) (ps : List (ℕ × ℕ)) → numbers_of text ≡ Some ns → by_twos ns ≡ Some ps → make_box ps ≡ true → pairs_of text ≡ Some ps
box_as_listed text ns ps e f box = listed text ns e ∙ ap (option_and_then checked_box) f ∙ cond-true (make_box ps) (Some ps) None box

-- ---- the faults of a box and a mask

applies : (test : Bool) (line : ℕ) (kind : HeaderKind) (others : List (Option HeaderFault)) → test ≡ true →
    first_of (fault_where test line kind ∷ others) ≡ Some (record { line = line; kind = kind })
applies test line kind others e = ap (λ b. first_of (fault_where b line kind ∷ others)) e

passes : (test : Bool) (line : ℕ) (kind : HeaderKind) (others : List (Option HeaderFault)) → test ≡ false →
    first_of (fault_where test line kind ∷ others) ≡ first_of others
passes test line kind others e = ap (λ b. first_of (fault_where b line kind ∷ others)) e

all_named : (n : ℕ) (mask : List ℕ) → list_all (λ digit. nat_lt digit n) mask ≡ true → NamesAxes mask n
all_named n [] h = All-nil (λ d. d < n)
all_named n (d ∷ ds) h =
    let both = both-true (nat_lt d n) (list_all (λ digit. nat_lt digit n) ds) h in
    let here : d < n = grind (arith, nat_tests, both.0) in
    All-cons (λ d. d < n) d ds here (all_named n ds both.1)

names_all : (n : ℕ) (mask : List ℕ) → NamesAxes mask n → list_all (λ digit. nat_lt digit n) mask ≡ true
names_all n [] h = refl
names_all n (d ∷ ds) h =
    let here : d < n = All-head (λ d. d < n) d ds h in
    let below : nat_lt d n ≡ true = grind (arith, nat_tests, here) in
    rw (below, names_all n ds (All-tail (λ d. d < n) d ds h)) refl

bad_names : (pairs : List (ℕ × ℕ)) (o : Option (List ℕ)) → ((mask : List ℕ) → o ≡ Some mask → ¬ NamesAxes mask (length pairs)) →
    (is_none o || not (names_pairs pairs (or_else [] o))) ≡ true
bad_names pairs None h = refl
bad_names pairs (Some mask) h =
    elim (cases_Bool (names_pairs pairs mask)) [
      | inl t ↦ absurd (h mask refl (all_named (length pairs) mask t))
      | inr f ↦ ap not f
    ]

good_names : (pairs : List (ℕ × ℕ)) (mask : List ℕ) → NamesAxes mask (length pairs) → (is_none (Some mask) || not (names_pairs pairs mask)) ≡ false
good_names pairs mask h = ap not (names_all (length pairs) mask h)

abbrev pub faults_in : Section → Section → List (Option HeaderFault)
faults_in box bits = bad_box box ∷ bad_mask box bits ∷ box_outside_mask box bits ∷ []

-- the faults behind the first, and behind the second, by what was read
abbrev behind_box : List (ℕ × ℕ) → Option (List ℕ) → Section → Section → List (Option HeaderFault)
behind_box pairs o box bits =
    fault_where (is_none o || not (names_pairs pairs (or_else [] o))) bits.line kinds.BadMask
    ∷ fault_where (not (fits_from 0 pairs (or_else [] o))) box.line kinds.BoxOutsideMask ∷ []

pub fault_no_pairs : (box bits : Section) → pairs_of box.value ≡ None → first_of (faults_in box bits) ≡ Some (record { line = box.line; kind = kinds.BadBox })
fault_no_pairs box bits e = applies (is_none (pairs_of box.value)) box.line kinds.BadBox (bad_mask box bits ∷ box_outside_mask box bits ∷ []) (ap is_none e)

module _ (box bits : Section) (pairs : List (ℕ × ℕ)) (has_pairs : pairs_of box.value ≡ Some pairs) where
  behind : first_of (faults_in box bits) ≡ first_of (behind_box pairs (mask_of bits.value) box bits)
  behind =
      passes (is_none (pairs_of box.value)) box.line kinds.BadBox (bad_mask box bits ∷ box_outside_mask box bits ∷ []) (ap is_none has_pairs)
      ∙ ap (λ o. first_of (behind_box (or_else [] o) (mask_of bits.value) box bits)) has_pairs

  pub fault_no_mask : ((mask : List ℕ) → mask_of bits.value ≡ Some mask → ¬ NamesAxes mask (length pairs)) →
      first_of (faults_in box bits) ≡ Some (record { line = bits.line; kind = kinds.BadMask })
  fault_no_mask none =
      behind ∙ applies (is_none (mask_of bits.value) || not (names_pairs pairs (or_else [] (mask_of bits.value)))) bits.line kinds.BadMask
      (fault_where (not (fits_from 0 pairs (or_else [] (mask_of bits.value)))) box.line kinds.BoxOutsideMask ∷ [])
      (bad_names pairs (mask_of bits.value) none)

  module _ (mask : List ℕ) (has_mask : mask_of bits.value ≡ Some mask) (named : NamesAxes mask (length pairs)) where
    behind_mask : first_of (faults_in box bits) ≡ first_of (fault_where (not (fits_from 0 pairs mask)) box.line kinds.BoxOutsideMask ∷ [])
    behind_mask =
        behind ∙ ap (λ o. first_of (behind_box pairs o box bits)) has_mask
        ∙ passes (is_none (Some mask) || not (names_pairs pairs mask)) bits.line kinds.BadMask
        (fault_where (not (fits_from 0 pairs mask)) box.line kinds.BoxOutsideMask ∷ []) (good_names pairs mask named)

    pub fault_outside : fits_from 0 pairs mask ≡ false → first_of (faults_in box bits) ≡ Some (record { line = box.line; kind = kinds.BoxOutsideMask })
    fault_outside e = behind_mask ∙ applies (not (fits_from 0 pairs mask)) box.line kinds.BoxOutsideMask [] (ap not e)

    pub fault_none : fits_from 0 pairs mask ≡ true → first_of (faults_in box bits) ≡ None
    fault_none e = behind_mask ∙ passes (not (fits_from 0 pairs mask)) box.line kinds.BoxOutsideMask [] (ap not e)

-- what was read is what the sections give
pub read_as : (box bits : Section) (pairs : List (ℕ × ℕ)) (mask : List ℕ) → pairs_of box.value ≡ Some pairs → mask_of bits.value ≡ Some mask →
    (mask ≡ mask_in bits) × (box_of pairs mask ≡ box_of (pairs_in box) (mask_in bits))
read_as box bits pairs mask has_pairs has_mask =
    let same : mask ≡ mask_in bits = sym (ap (or_else []) has_mask) in
    let pairs_same : pairs ≡ pairs_in box = sym (ap (or_else []) has_pairs) in
    (same, λ i. box_of (pairs_same i) (same i))
