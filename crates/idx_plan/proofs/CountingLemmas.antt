-- How many points of a region have some levels.
use Rattle.std.proofs.Common.{◌≡◌, ◌≢◌, ◌↔◌, ℕ, suc, ◌+◌, ◌-◌, ◌≤◌, Bool, true, false, cond, ◌&&◌, leb, List, [], ◌∷◌, length, filter, Some, refl, sym, ap, ◌∙◌, subst, arith}
use Rattle.std.specs.Prelude.{slice_get}
use Rattle.std.proofs.lemmas.Bool.{and_parts, le-leb, leb-true}
use Rattle.std.proofs.lemmas.Bool.Decides.{nat_tests}
use Rattle.std.proofs.lemmas.List.{length-map}
use Rattle.idx_geom.specs.Region.{LiesIn, points, upper_ends}
use Rattle.idx_geom.proofs.LiesInLemmas.{length_from_LiesIn}
use Rattle.idx_geom.proofs.PointsLemmas.{LiesIn-slice_get}
use Rattle.idx_hz.specs.Mask.{HasAddress, NamesAxes}
use Rattle.idx_hz.specs.Address.{level}
use Rattle.idx_hz.specs.Answer.{has_level}
use Rattle.idx_hz.proofs.RegionLemmas.{HasAddress-from_end}
use Rattle.idx_grid.specs.Grid.{LiesOn, lies_on}
use Rattle.idx_grid.specs.declared.grid.Grid.{Grid}
use Rattle.idx_grid.proofs.GridLemmas.{is_on_axes_iff}
use Rattle.idx_header.specs.Header.{HeaderValue, IsHeader}
use Rattle.idx_layout.proofs.ListLemmas.{same_tests}

-- tests that agree on the items of a list keep the same of it
pub filter-agree : {X : Type 0} (p q : X → Bool) (xs : List X) → ((k : ℕ) (x : X) → slice_get xs k ≡ Some x → p x ≡ q x) → filter p xs ≡ filter q xs
filter-agree p q [] same = refl
filter-agree p q (x ∷ xs) same =
    ap (λ b. cond b (x ∷ filter p xs) (filter p xs)) (same 0 x refl)
    ∙ ap (λ t. cond (q x) (x ∷ t) t) (filter-agree p q xs (λ k y at. same (suc k) y at))

-- the points of a level's grid are those of the levels up to it
pub counted_up_to : (mask : List ℕ) (region : List (ℕ × ℕ)) (grid : Grid) (h : ℕ) → HasAddress mask (upper_ends region) →
    ((p : List ℕ) → length p ≡ length region → HasAddress mask p → (level mask p ≤ h) ↔ LiesOn grid p) →
    length (filter (lies_on grid) (points region)) ≡ length (filter (has_level mask 0 h) (points region))
counted_up_to mask region grid h address is =
    ap length (filter-agree (lies_on grid) (has_level mask 0 h) (points region) (λ k p at.
    let inside : LiesIn region p = (LiesIn-slice_get region k p at).0 in
    let here = is p (length_from_LiesIn region p inside) (HasAddress-from_end mask region p address inside) in
    same_tests (lies_on grid p) (has_level mask 0 h p)
    (λ on. ap (λ b. b && leb (level mask p) h) (le-leb 0 (level mask p) (omega arith)) ∙ le-leb (level mask p) h (here.1 ((is_on_axes_iff grid.first grid.step p).0 on)))
    (λ low. (is_on_axes_iff grid.first grid.step p).1 (here.0 (leb-true (level mask p) h (and_parts (leb 0 (level mask p)) (leb (level mask p) h) low).1)))))

-- ---- levels from one on

-- the levels up to the last are those from one on, and those before
split_test : (lo hi n : ℕ) → suc lo ≤ hi → cond (leb 0 n && leb n hi) 1 0 ≡ cond (leb (suc lo) n && leb n hi) 1 0 + cond (leb 0 n && leb n lo) 1 0
split_test lo hi n ordered = grind (arith, nat_tests)

length-filter : {X : Type 0} (p : X → Bool) (x : X) (xs : List X) → length (filter p (x ∷ xs)) ≡ cond (p x) 1 0 + length (filter p xs)
length-filter p x xs = by_test (p x)
  where
    by_test : (b : Bool) → length (cond b (x ∷ filter p xs) (filter p xs)) ≡ cond b 1 0 + length (filter p xs)
    by_test true = omega arith
    by_test false = omega arith

pub count_split : {X : Type 0} (f : X → ℕ) (lo hi : ℕ) (xs : List X) → suc lo ≤ hi →
    length (filter (λ x. leb 0 (f x) && leb (f x) hi) xs) ≡ length (filter (λ x. leb (suc lo) (f x) && leb (f x) hi) xs) + length (filter (λ x. leb 0 (f x) && leb (f x) lo) xs)
count_split f lo hi [] ordered = refl
count_split f lo hi (x ∷ xs) ordered =
    omega (
      arith,
      length-filter (λ x. leb 0 (f x) && leb (f x) hi) x xs,
      length-filter (λ x. leb (suc lo) (f x) && leb (f x) hi) x xs,
      length-filter (λ x. leb 0 (f x) && leb (f x) lo) x xs,
      split_test lo hi (f x) ordered,
      count_split f lo hi xs ordered,
    )

-- those of the levels from one on are all up to the last, without those before
pub counted_between : (mask : List ℕ) (region : List (ℕ × ℕ)) (lo hi fine coarse : ℕ) → lo ≢ 0 → lo ≤ hi → fine ≡ length (filter (has_level mask 0 hi) (points region)) →
    coarse ≡ length (filter (has_level mask 0 (lo - 1)) (points region)) → (coarse ≤ fine) × (fine - coarse ≡ length (filter (has_level mask lo hi) (points region)))
counted_between mask region lo hi fine coarse some ordered f c =
    let next : suc (lo - 1) ≡ lo = omega (arith, some) in
    let whole : length (filter (has_level mask 0 hi) (points region)) ≡ length (filter (has_level mask lo hi) (points region)) + length (filter (has_level mask 0 (lo - 1)) (points region)) =
    count_split (level mask) (lo - 1) hi (points region) (omega (arith, some)) ∙ ap (λ n. length (filter (has_level mask n hi) (points region)) + length (filter (has_level mask 0 (lo - 1)) (points region))) next in
    (omega (arith, f, c, whole), omega (arith, f, c, whole))

-- ---- by what a header's calls answer

box_address : (h : HeaderValue) (region : List (ℕ × ℕ)) (mask : List ℕ) → mask ≡ h.mask → IsHeader h → LiesIn h.box (upper_ends region) → HasAddress mask (upper_ends region)
box_address h region mask is valid upper =
    subst (λ (m : List ℕ). HasAddress m (upper_ends region)) (sym is) (HasAddress-from_end h.mask h.box (upper_ends region) valid.covered upper)

pub named_axes : (h : HeaderValue) (region : List (ℕ × ℕ)) (mask : List ℕ) (axes : ℕ) → mask ≡ h.mask → IsHeader h → LiesIn h.box (upper_ends region) → axes ≡ length region → NamesAxes mask axes
named_axes h region mask axes is valid upper size =
    subst (λ (n : ℕ). NamesAxes mask n) (length-map region (λ (c : ℕ × ℕ). c.1) ∙ sym size) (box_address h region mask is valid upper).named

pub counted_in_box : (h : HeaderValue) (region : List (ℕ × ℕ)) (mask : List ℕ) (axes : ℕ) (grid : Grid) (hi : ℕ) → mask ≡ h.mask → IsHeader h → LiesIn h.box (upper_ends region) → axes ≡ length region →
    ((p : List ℕ) → length p ≡ axes → HasAddress mask p → (level mask p ≤ hi) ↔ LiesOn grid p) →
    length (filter (lies_on grid) (points region)) ≡ length (filter (has_level h.mask 0 hi) (points region))
counted_in_box h region mask axes grid hi is valid upper size on =
    counted_up_to mask region grid hi (box_address h region mask is valid upper) (λ p same. on p (same ∙ sym size))
    ∙ ap (λ (m : List ℕ). length (filter (has_level m 0 hi) (points region))) is
