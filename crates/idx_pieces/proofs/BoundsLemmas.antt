-- Boxes by their points.
use Rattle.std.proofs.Common.{◌≡◌, ℕ, ◌≤◌, ◌↔◌, Bool, true, false, leb, List, [], ◌∷◌, length, refl, sym, ap, ◌∙◌, arith, subst, Some, None, Option}
use Rattle.std.specs.Prelude.{◌&&◌, nat_le, is_some}
use Rattle.std.specs.Option.{SomeIff}
use Rattle.std.specs.List.{list_all}
use Rattle.std.proofs.lemmas.List.Elements.{All-head, All-tail, All-cons}
use Rattle.idx_geom.specs.Region.{HaveCommonPoint, LiesIn, common_bounds, lower_ends, upper_ends}
use Rattle.idx_geom.proofs.EndsLemmas.{IsOrdered}
use Rattle.idx_geom.proofs.LiesInLemmas.{IsOrdered-from_point, LiesIn-common_bounds, LiesIn-lower_ends, LiesIn-upper_ends, both_from_common_bounds}
use Rattle.idx_pieces.specs.Ranks.{meets}

-- two boxes, each of which has the ends of the other, are one
pub same_from_ends : (r s : List (ℕ × ℕ)) → LiesIn r (lower_ends s) → LiesIn r (upper_ends s) → LiesIn s (lower_ends r) → LiesIn s (upper_ends r) → r ≡ s
same_from_ends [] [] a b c d = refl
same_from_ends [] (y ∷ ys) a b c d = absurd a
same_from_ends (x ∷ xs) [] a b c d = absurd a
same_from_ends (x ∷ xs) (y ∷ ys) a b c d =
    let low : x.0 ≡ y.0 = omega (arith, a.0, c.0) in
    let high : x.1 ≡ y.1 = omega (arith, b.1, d.1) in
    let first : x ≡ y = ap (λ (n : ℕ). (n, x.1)) low ∙ ap (λ (n : ℕ). (y.0, n)) high in
    ap (λ (b : ℕ × ℕ). b ∷ xs) first ∙ ap (λ (rest : List (ℕ × ℕ)). y ∷ rest) (same_from_ends xs ys a.2 b.2 c.2 d.2)

-- two boxes with the same points are one
pub same_from_points : (r s : List (ℕ × ℕ)) → IsOrdered s → ((p : List ℕ) → LiesIn r p ↔ LiesIn s p) → r ≡ s
same_from_points r s ordered same =
    let low = (same (lower_ends s)).1 (LiesIn-lower_ends s ordered) in
    let mine = IsOrdered-from_point r (lower_ends s) low in
    same_from_ends r s low ((same (upper_ends s)).1 (LiesIn-upper_ends s ordered))
    ((same (lower_ends r)).0 (LiesIn-lower_ends r mine)) ((same (upper_ends r)).0 (LiesIn-upper_ends r mine))

-- ---- the test of bounds

abbrev pub are_ordered : List (ℕ × ℕ) → Bool
are_ordered bs = list_all (λ b. nat_le b.0 b.1) bs

pub ordered_from_test : (bs : List (ℕ × ℕ)) → are_ordered bs ≡ true → IsOrdered bs
ordered_from_test [] e = λ k d h. absurd (omega arith)
ordered_from_test (b ∷ bs) e = by_test (ordered_from_test bs) (nat_le b.0 b.1) refl
  where
    by_test : (are_ordered bs ≡ true → IsOrdered bs) → (t : Bool) → nat_le b.0 b.1 ≡ t → IsOrdered (b ∷ bs)
    by_test more true is =
        let rest : are_ordered bs ≡ true = sym (ap (λ (t : Bool). t && are_ordered bs) is) ∙ e in
        All-cons (λ (b : ℕ × ℕ). b.0 ≤ b.1) b bs (grind arith) (more rest)
    by_test more false is =
        let wrong : false ≡ true = sym (ap (λ (t : Bool). t && are_ordered bs) is) ∙ e in cc

pub test_from_ordered : (bs : List (ℕ × ℕ)) → IsOrdered bs → are_ordered bs ≡ true
test_from_ordered [] ordered = refl
test_from_ordered (b ∷ bs) ordered =
    let here : b.0 ≤ b.1 = All-head (λ (b : ℕ × ℕ). b.0 ≤ b.1) b bs ordered in
    let is : nat_le b.0 b.1 ≡ true = le-true b.0 b.1 here in
    ap (λ (t : Bool). t && are_ordered bs) is ∙ test_from_ordered bs (All-tail (λ (b : ℕ × ℕ). b.0 ≤ b.1) b bs ordered)
  where
    le-true : (a b : ℕ) → a ≤ b → leb a b ≡ true
    le-true a b h = grind arith

-- two boxes meet exactly where they have a common point
pub common_from_meets : (r s : List (ℕ × ℕ)) → length r ≡ length s → meets r s ≡ true → HaveCommonPoint r s
common_from_meets r s same e =
    let ordered = ordered_from_test (common_bounds r s) e in
    (lower_ends (common_bounds r s), both_from_common_bounds r s (lower_ends (common_bounds r s)) same (LiesIn-lower_ends (common_bounds r s) ordered))

pub meets_from_common : (r s : List (ℕ × ℕ)) → HaveCommonPoint r s → meets r s ≡ true
meets_from_common r s common =
    test_from_ordered (common_bounds r s) (IsOrdered-from_point (common_bounds r s) common.0 (LiesIn-common_bounds r s common.0 common.1.0 common.1.1))

pub found_iff_meets : (r s : List (ℕ × ℕ)) (v : List (ℕ × ℕ)) (o : Option (List (ℕ × ℕ))) → length r ≡ length s →
    SomeIff o (HaveCommonPoint r s) v → is_some o ≡ meets r s
found_iff_meets r s v (Some x) same is = sym (meets_from_common r s is.0)
found_iff_meets r s v None same is = by_test (meets r s) refl
  where
    by_test : (t : Bool) → meets r s ≡ t → false ≡ meets r s
    by_test false e = sym e
    by_test true e = absurd (is (common_from_meets r s same e))

pub found_iff_test : {X : Type 0} (test : Bool) (v : X) (o : Option X) → SomeIff o (test ≡ true) v → is_some o ≡ test
found_iff_test test v (Some x) is = sym is.0
found_iff_test true v None is = absurd (is refl)
found_iff_test false v None is = refl

pub value_from_SomeIff : {X : Type 0} (P : Type 0) (o : Option X) (v x : X) → SomeIff o P v → o ≡ Some x → x ≡ v
value_from_SomeIff {X} P o v x is same = (subst (λ (w : Option X). SomeIff w P v) same is).1
