-- Searches over lists, a step at a time, and the tests of parcels.
use Rattle.std.proofs.Common.{◌≡◌, ℕ, suc, ◌+◌, ◌-◌, ◌<◌, ◌≤◌, Bool, true, false, cond, List, [], ◌∷◌, length, drop, get_or, refl, sym, ap, ◌∙◌, arith, subst, Some, None, eq-eqb, eqb-true}
use Rattle.std.specs.Prelude.{◌==◌, ◌&&◌, ◌↔◌, IsTrue, find, Contains}
use Rattle.std.specs.List.{list_any, position_from, range_with_len}
use Rattle.std.proofs.lemmas.List.{drop_more, drop_all}
use Rattle.std.proofs.lemmas.Option.{slice_get_within, slice_get-get_or, same_Some}
use Rattle.idx_geom.specs.Region.{HoldsAll, LiesIn, lower_ends, upper_ends}
use Rattle.idx_layout.proofs.ListLemmas.{passing}
use Rattle.idx_pieces.specs.Refusals.{same_bounds}
use Rattle.idx_pieces.proofs.BoundsLemmas.{same_from_ends}

-- ---- the first place that passes

pub position_here : {X : Type 0} (t : X → Bool) (xs : List X) (i : ℕ) (x : X) → i < length xs → x ≡ get_or xs i x → t x ≡ true →
    position_from t i (drop i xs) ≡ Some i
position_here t xs i x inside is passes =
    ap (position_from t i) (drop_more xs i x inside)
    ∙ ap (λ (b : Bool). cond b (Some i) (position_from t (i + 1) (drop (i + 1) xs))) (ap t (sym is) ∙ passes)

pub position_later : {X : Type 0} (t : X → Bool) (xs : List X) (i : ℕ) (x : X) → i < length xs → x ≡ get_or xs i x → t x ≡ false →
    position_from t i (drop i xs) ≡ position_from t (i + 1) (drop (i + 1) xs)
position_later t xs i x inside is fails =
    ap (position_from t i) (drop_more xs i x inside)
    ∙ ap (λ (b : Bool). cond b (Some i) (position_from t (i + 1) (drop (i + 1) xs))) (ap t (sym is) ∙ fails)

pub position_none : {X : Type 0} (t : X → Bool) (xs : List X) (i : ℕ) → length xs ≤ i → position_from t i (drop i xs) ≡ None
position_none t xs i past = ap (position_from t i) (drop_all i xs past)

-- ---- the first element that passes

pub find_here : (t : ℕ → Bool) (xs : List ℕ) (i : ℕ) → i < length xs → t (get_or xs i 0) ≡ true → find t (drop i xs) ≡ Some (get_or xs i 0)
find_here t xs i inside passes =
    ap (find t) (drop_more xs i 0 inside) ∙ ap (λ (b : Bool). cond b (Some (get_or xs i 0)) (find t (drop (i + 1) xs))) passes

pub find_later : (t : ℕ → Bool) (xs : List ℕ) (i : ℕ) → i < length xs → t (get_or xs i 0) ≡ false → find t (drop i xs) ≡ find t (drop (i + 1) xs)
find_later t xs i inside fails =
    ap (find t) (drop_more xs i 0 inside) ∙ ap (λ (b : Bool). cond b (Some (get_or xs i 0)) (find t (drop (i + 1) xs))) fails

pub find_none : (t : ℕ → Bool) (xs : List ℕ) (i : ℕ) → length xs ≤ i → find t (drop i xs) ≡ None
find_none t xs i past = ap (find t) (drop_all i xs past)

-- ---- the first number of a range that passes

left : (i n : ℕ) → i < n → n - i ≡ suc (n - (i + 1))
left i n h = omega arith

pub range_here : (t : ℕ → Bool) (i n : ℕ) → i < n → t i ≡ true → find t (range_with_len i (n - i)) ≡ Some i
range_here t i n inside passes =
    ap (λ (k : ℕ). find t (range_with_len i k)) (left i n inside)
    ∙ ap (λ (b : Bool). cond b (Some i) (find t (range_with_len (i + 1) (n - (i + 1))))) passes

pub range_later : (t : ℕ → Bool) (i n : ℕ) → i < n → t i ≡ false → find t (range_with_len i (n - i)) ≡ find t (range_with_len (i + 1) (n - (i + 1)))
range_later t i n inside fails =
    ap (λ (k : ℕ). find t (range_with_len i k)) (left i n inside)
    ∙ ap (λ (b : Bool). cond b (Some i) (find t (range_with_len (i + 1) (n - (i + 1))))) fails

pub range_none : (t : ℕ → Bool) (i n : ℕ) → n ≤ i → find t (range_with_len i (n - i)) ≡ None
range_none t i n past = ap (λ (k : ℕ). find t (range_with_len i k)) (none past)
  where
    none : n ≤ i → n - i ≡ 0
    none h = omega arith

-- ---- a rank among some

pub contains_from_test : (xs : List ℕ) (x : ℕ) → list_any (λ y. y == x) xs ≡ true → Contains xs x
contains_from_test xs x e =
    let at = passing (λ y. y == x) xs e in
    let same : at.1 ≡ x = eqb-true at.1 x at.3 in
    let inside = slice_get_within xs at.0 at.1 at.2 in
    (at.0, inside, same_Some (get_or xs at.0 x) at.1 (sym (slice_get-get_or xs at.0 x inside) ∙ at.2) ∙ same)

-- ---- regions with the same bounds

pub bounds_same : (r s : List (ℕ × ℕ)) → same_bounds r s ≡ true → r ≡ s
bounds_same [] [] e = refl
bounds_same [] (b ∷ bs) e = let wrong : false ≡ true = e in cc
bounds_same (a ∷ xs) [] e = let wrong : false ≡ true = e in cc
bounds_same (a ∷ xs) (b ∷ bs) e = by_test (bounds_same xs bs) (a.0 == b.0) (a.1 == b.1) refl refl
  where
    whole : (t u : Bool) → (a.0 == b.0) ≡ t → (a.1 == b.1) ≡ u → t && u && same_bounds xs bs ≡ true
    whole t u one two = ap (λ (v : Bool). v && u && same_bounds xs bs) (sym one) ∙ ap (λ (v : Bool). (a.0 == b.0) && v && same_bounds xs bs) (sym two) ∙ e

    by_test : (same_bounds xs bs ≡ true → xs ≡ bs) → (t u : Bool) → (a.0 == b.0) ≡ t → (a.1 == b.1) ≡ u → a ∷ xs ≡ b ∷ bs
    by_test more true true one two =
        let low : a.0 ≡ b.0 = eqb-true a.0 b.0 one in
        let high : a.1 ≡ b.1 = eqb-true a.1 b.1 two in
        let first : a ≡ b = ap (λ (n : ℕ). (n, a.1)) low ∙ ap (λ (n : ℕ). (b.0, n)) high in
        ap (λ (c : ℕ × ℕ). c ∷ xs) first ∙ ap (λ (rest : List (ℕ × ℕ)). b ∷ rest) (more (whole true true one two))
    by_test more true false one two = let wrong : false ≡ true = whole true false one two in cc
    by_test more false u one two = let wrong : false ≡ true = whole false u one two in cc

pub bounds_equal : (r : List (ℕ × ℕ)) → same_bounds r r ≡ true
bounds_equal [] = refl
bounds_equal (b ∷ bs) =
    ap (λ (v : Bool). v && (b.1 == b.1) && same_bounds bs bs) (eq-eqb b.0 b.0 refl)
    ∙ ap (λ (v : Bool). v && same_bounds bs bs) (eq-eqb b.1 b.1 refl)
    ∙ bounds_equal bs

-- a region that does not hold all of another is not the same
pub other_region : (r s : List (ℕ × ℕ)) (first : Bool) → (IsTrue first ↔ HoldsAll r s) → first ≡ false → false ≡ same_bounds r s
other_region r s first holds fails = by_test (same_bounds r s) refl
  where
    by_test : (t : Bool) → same_bounds r s ≡ t → false ≡ same_bounds r s
    by_test false e = sym e
    by_test true e =
        let same : r ≡ s = bounds_same r s e in
        let all : first ≡ true = holds.1 (subst (λ (q : List (ℕ × ℕ)). HoldsAll r q) same (λ p inside. inside)) in
        let wrong : false ≡ true = sym fails ∙ all in
        cc

-- two regions of which one holds the other are the same where the other holds it too
pub same_region : (r s : List (ℕ × ℕ)) (first second : Bool) → (IsTrue first ↔ (LiesIn r (lower_ends s) × LiesIn r (upper_ends s))) →
    (IsTrue second ↔ (LiesIn s (lower_ends r) × LiesIn s (upper_ends r))) → (IsTrue second ↔ HoldsAll s r) → first ≡ true → second ≡ same_bounds r s
same_region r s first true ends too holds is =
    let here = ends.0 is in
    let there = too.0 refl in
    let same : r ≡ s = same_from_ends r s here.0 here.1 there.0 there.1 in
    sym (ap (λ (q : List (ℕ × ℕ)). same_bounds r q) (sym same) ∙ bounds_equal r)
same_region r s first false ends too holds is = by_test (same_bounds r s) refl
  where
    by_test : (t : Bool) → same_bounds r s ≡ t → false ≡ same_bounds r s
    by_test false e = sym e
    by_test true e =
        let same : r ≡ s = bounds_same r s e in
        let wrong : false ≡ true = holds.1 (subst (λ (q : List (ℕ × ℕ)). HoldsAll q r) same (λ p inside. inside)) in
        cc
