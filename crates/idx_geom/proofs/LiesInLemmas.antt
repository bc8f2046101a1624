-- Which points lie in a region, axis by axis, and what two regions have in common.
use Rattle.std.proofs.Common.{◌≡◌, ℕ, zero, suc, ◌+◌, ◌-◌, ◌*◌, ◌<◌, ◌≤◌, ◌↔◌, min, max, List, [], ◌∷◌, length, drop, map, get_or, refl, sym, ap, ◌∙◌, arith}
use Rattle.std.proofs.lemmas.List.{drop_more, length-map}
use Rattle.std.proofs.lemmas.Nat.{mul-le}
use Rattle.std.proofs.lemmas.List.Elements.{All-head, All-tail, All-cons, All-nil}
use Rattle.idx_geom.specs.Region.{extent, LiesIn, HoldsAll, lower_ends, upper_ends, place_of, common_bounds}
use Rattle.idx_geom.proofs.EndsLemmas.{IsOrdered}
use Rattle.idx_geom.proofs.PointsLemmas.{size}

-- the coordinate lies between the bounds of its axis
abbrev pub IsBetween : ℕ × ℕ → ℕ → Type 0
IsBetween b x = (b.0 ≤ x) × (x ≤ b.1)

pub length_from_LiesIn : (bs : List (ℕ × ℕ)) (p : List ℕ) → LiesIn bs p → length p ≡ length bs
length_from_LiesIn [] [] h = refl
length_from_LiesIn [] (x ∷ xs) h = absurd h
length_from_LiesIn (b ∷ bs) [] h = absurd h
length_from_LiesIn (b ∷ bs) (x ∷ xs) h = ap suc (length_from_LiesIn bs xs h.2)

pub LiesIn-from_axes : (bs : List (ℕ × ℕ)) (p : List ℕ) → length p ≡ length bs → ((k : ℕ) → k < length bs → IsBetween (get_or bs k (0, 0)) (get_or p k 0)) → LiesIn bs p
LiesIn-from_axes [] [] same each = tt
LiesIn-from_axes [] (x ∷ xs) same each = absurd (omega arith)
LiesIn-from_axes (b ∷ bs) [] same each = absurd (omega arith)
LiesIn-from_axes (b ∷ bs) (x ∷ xs) same each =
    let here : IsBetween b x = each 0 (omega arith) in
    (here.0, here.1, LiesIn-from_axes bs xs (omega arith) (λ k h. each (suc k) (omega arith)))

pub LiesIn-at_axis : (bs : List (ℕ × ℕ)) (p : List ℕ) → LiesIn bs p → (k : ℕ) → k < length bs → IsBetween (get_or bs k (0, 0)) (get_or p k 0)
LiesIn-at_axis [] p h k inside = absurd (omega arith)
LiesIn-at_axis (b ∷ bs) [] h k inside = absurd h
LiesIn-at_axis (b ∷ bs) (x ∷ xs) h zero inside = (h.0, h.1)
LiesIn-at_axis (b ∷ bs) (x ∷ xs) h (suc k) inside = LiesIn-at_axis bs xs h.2 k (omega arith)

-- the place, one axis on
pub place_of-drop : (bs : List (ℕ × ℕ)) (p : List ℕ) → length p ≡ length bs → (k : ℕ) (b : ℕ × ℕ) → k < length bs → b ≡ get_or bs k (0, 0) → place_of (drop k bs) (drop k p) ≡ (get_or p k 0 - b.0) + extent b * place_of (drop (k + 1) bs) (drop (k + 1) p)
place_of-drop bs p same k b h here =
    let inside : k < length p = omega arith in
    ap (λ cs. place_of cs (drop k p)) (drop_more bs k (0, 0) h)
    ∙ ap (λ q. place_of (get_or bs k (0, 0) ∷ drop (k + 1) bs) q) (drop_more p k 0 inside)
    ∙ ap (λ c. place_of (c ∷ drop (k + 1) bs) (get_or p k 0 ∷ drop (k + 1) p)) (sym here)

pub LiesIn-drop : (bs : List (ℕ × ℕ)) (p : List ℕ) (k : ℕ) → LiesIn bs p → LiesIn (drop k bs) (drop k p)
LiesIn-drop bs p zero h = h
LiesIn-drop [] [] (suc k) h = tt
LiesIn-drop [] (x ∷ xs) (suc k) h = absurd h
LiesIn-drop (b ∷ bs) [] (suc k) h = absurd h
LiesIn-drop (b ∷ bs) (x ∷ xs) (suc k) h = LiesIn-drop bs xs k h.2

-- what lies in both regions lies in the common bounds, and the other way round
pub LiesIn-common_bounds : (as' bs : List (ℕ × ℕ)) (p : List ℕ) → LiesIn as' p → LiesIn bs p → LiesIn (common_bounds as' bs) p
LiesIn-common_bounds [] [] [] h k = tt
LiesIn-common_bounds [] (b ∷ bs) [] h k = absurd k
LiesIn-common_bounds [] bs (x ∷ xs) h k = absurd h
LiesIn-common_bounds (a ∷ as') bs [] h k = absurd h
LiesIn-common_bounds (a ∷ as') [] (x ∷ xs) h k = absurd k
LiesIn-common_bounds (a ∷ as') (b ∷ bs) (x ∷ xs) h k =
    (omega (arith, h.0, k.0), omega (arith, h.1, k.1), LiesIn-common_bounds as' bs xs h.2 k.2)

pub both_from_common_bounds : (as' bs : List (ℕ × ℕ)) (p : List ℕ) → length as' ≡ length bs → LiesIn (common_bounds as' bs) p → LiesIn as' p × LiesIn bs p
both_from_common_bounds [] [] p same h = (h, h)
both_from_common_bounds [] (b ∷ bs) p same h = absurd (omega arith)
both_from_common_bounds (a ∷ as') [] p same h = absurd (omega arith)
both_from_common_bounds (a ∷ as') (b ∷ bs) [] same h = absurd h
both_from_common_bounds (a ∷ as') (b ∷ bs) (x ∷ xs) same h =
    let rest = both_from_common_bounds as' bs xs (omega arith) h.2 in
    ((omega (arith, h.0), omega (arith, h.1), rest.0), (omega (arith, h.0), omega (arith, h.1), rest.1))

-- bounds with a point are in order, and bounds in order have one: the lower ends
pub IsOrdered-from_point : (bs : List (ℕ × ℕ)) (p : List ℕ) → LiesIn bs p → IsOrdered bs
IsOrdered-from_point [] p h = All-nil (λ (b : ℕ × ℕ). b.0 ≤ b.1)
IsOrdered-from_point (b ∷ bs) [] h = absurd h
IsOrdered-from_point (b ∷ bs) (x ∷ xs) h = All-cons (λ (b : ℕ × ℕ). b.0 ≤ b.1) b bs (omega (arith, h.0, h.1)) (IsOrdered-from_point bs xs h.2)

pub LiesIn-lower_ends : (bs : List (ℕ × ℕ)) → IsOrdered bs → LiesIn bs (map (λ b. b.0) bs)
LiesIn-lower_ends [] h = tt
LiesIn-lower_ends (b ∷ bs) h =
    (omega arith, All-head (λ (b : ℕ × ℕ). b.0 ≤ b.1) b bs h, LiesIn-lower_ends bs (All-tail (λ (b : ℕ × ℕ). b.0 ≤ b.1) b bs h))

pub LiesIn-upper_ends : (bs : List (ℕ × ℕ)) → IsOrdered bs → LiesIn bs (upper_ends bs)
LiesIn-upper_ends [] h = tt
LiesIn-upper_ends (b ∷ bs) h =
    (All-head (λ (b : ℕ × ℕ). b.0 ≤ b.1) b bs h, omega arith, LiesIn-upper_ends bs (All-tail (λ (b : ℕ × ℕ). b.0 ≤ b.1) b bs h))

-- a region whose lower ends lie in another has its axes
pub axes_from_ends : (as' bs : List (ℕ × ℕ)) → LiesIn as' (lower_ends bs) → length as' ≡ length bs
axes_from_ends as' bs h = sym (length_from_LiesIn as' (lower_ends bs) h) ∙ length-map bs (λ b. b.0)

-- where both ends of a region lie in another, so does each of its points
pub HoldsAll-from_ends : (as' bs : List (ℕ × ℕ)) → LiesIn as' (lower_ends bs) → LiesIn as' (upper_ends bs) → HoldsAll as' bs
HoldsAll-from_ends [] [] lower upper [] h = tt
HoldsAll-from_ends [] [] lower upper (x ∷ xs) h = h
HoldsAll-from_ends [] (b ∷ bs) lower upper p h = absurd lower
HoldsAll-from_ends (a ∷ as') [] lower upper p h = absurd lower
HoldsAll-from_ends (a ∷ as') (b ∷ bs) lower upper [] h = absurd h
HoldsAll-from_ends (a ∷ as') (b ∷ bs) lower upper (x ∷ xs) h =
    (omega (arith, lower.0, h.0), omega (arith, upper.1, h.1), HoldsAll-from_ends as' bs lower.2 upper.2 xs h.2)

-- and the other way round
pub holds_iff : (as' bs : List (ℕ × ℕ)) → IsOrdered bs → (LiesIn as' (lower_ends bs) × LiesIn as' (upper_ends bs)) ↔ HoldsAll as' bs
holds_iff as' bs ordered = (
  λ ends. HoldsAll-from_ends as' bs ends.0 ends.1,
  λ all. (all (lower_ends bs) (LiesIn-lower_ends bs ordered), all (upper_ends bs) (LiesIn-upper_ends bs ordered)),
)

-- a common part has no more points than the whole
pub size-common_bounds : (as' bs : List (ℕ × ℕ)) → length as' ≡ length bs → size (common_bounds as' bs) ≤ size as'
size-common_bounds [] [] same = omega arith
size-common_bounds [] (b ∷ bs) same = absurd (omega arith)
size-common_bounds (a ∷ as') [] same = absurd (omega arith)
size-common_bounds (a ∷ as') (b ∷ bs) same =
    mul-le (extent (max a.0 b.0, min a.1 b.1)) (size (common_bounds as' bs)) (extent a) (size as') (omega arith) (size-common_bounds as' bs (omega arith))

pub length-common_bounds : (as' bs : List (ℕ × ℕ)) → length as' ≡ length bs → length (common_bounds as' bs) ≡ length as'
length-common_bounds [] [] same = refl
length-common_bounds [] (b ∷ bs) same = refl
length-common_bounds (a ∷ as') [] same = absurd (omega arith)
length-common_bounds (a ∷ as') (b ∷ bs) same = ap suc (length-common_bounds as' bs (omega arith))

pub get_or-common_bounds : (as' bs : List (ℕ × ℕ)) → length as' ≡ length bs → (k : ℕ) (d : ℕ × ℕ) → k < length as' → get_or (common_bounds as' bs) k d ≡ (max (get_or as' k d).0 (get_or bs k d).0, min (get_or as' k d).1 (get_or bs k d).1)
get_or-common_bounds [] bs same k d h = absurd (omega arith)
get_or-common_bounds (a ∷ as') [] same k d h = absurd (omega arith)
get_or-common_bounds (a ∷ as') (b ∷ bs) same zero d h = refl
get_or-common_bounds (a ∷ as') (b ∷ bs) same (suc k) d h = get_or-common_bounds as' bs (omega arith) k d (omega arith)
