-- The row-major order of a region's points: each place has one point, and each point one place.
use Rattle.std.proofs.Common.{◌≡◌, ℕ, zero, suc, ◌+◌, ◌-◌, ◌*◌, ◌/◌, ◌%◌, ◌<◌, ◌≤◌, List, [], ◌∷◌, ◌++◌, length, map, refl, sym, ap, ◌∙◌, arith, length-append, subst, Some, ⊎_elim}
use Rattle.std.specs.List.{flat_map, range_with_len, slice_get}
use Rattle.std.specs.Option.{option_map}
use Rattle.std.proofs.lemmas.Bool.{cases_lt}
use Rattle.std.proofs.lemmas.Option.{slice_get-map, slice_get_within, slice_get-get_or, same_Some}
use Rattle.std.proofs.lemmas.List.FromFn.{length-range_with_len, length-map-range_with_len, get_or-range_with_len}
use Rattle.std.proofs.Math.Nat.{div-eq_of_lt, mod-eq_of_lt, div-eq-sub-div, mod-eq-sub-mod, mul_comm, mod-lt, mod-add-div}
use Rattle.std.proofs.lemmas.Nat.{div-mul-add, mod-mul-add, mul-add-lt, div_below}
use Rattle.idx_geom.specs.Region.{extent, points, LiesIn, place_of, point_of}

-- the number of points, as a product
abbrev pub size : List (ℕ × ℕ) → ℕ
size [] = 1
size (b ∷ bs) = extent b * size bs

-- the points of one row
row : ℕ × ℕ → List ℕ → List (List ℕ)
row b slower = map (λ x. x ∷ slower) (range_with_len b.0 (extent b))

length-row : (b : ℕ × ℕ) (slower : List ℕ) → length (row b slower) ≡ extent b
unfolding row
length-row b slower = length-map-range_with_len (λ x. x ∷ slower) b.0 (extent b)

length-rows : (b : ℕ × ℕ) (ps : List (List ℕ)) → length (flat_map (row b) ps) ≡ extent b * length ps
length-rows b [] = omega arith
length-rows b (p ∷ ps) =
    length-append (row b p) (flat_map (row b) ps) ∙ omega (arith, length-row b p, length-rows b ps)

pub length-points : (bs : List (ℕ × ℕ)) → length (points bs) ≡ size bs
unfolding row
length-points [] = refl
length-points (b ∷ bs) = length-rows b (points bs) ∙ ap (λ n. extent b * n) (length-points bs)

-- what stands at a place of two lists, one behind the other
slice_get-append_left : (xs ys : List (List ℕ)) (k : ℕ) → k < length xs → slice_get (xs ++ ys) k ≡ slice_get xs k
slice_get-append_left [] ys k h = absurd (omega arith)
slice_get-append_left (x ∷ xs) ys zero h = refl
slice_get-append_left (x ∷ xs) ys (suc k) h = slice_get-append_left xs ys k (omega arith)

slice_get-append_right : (xs ys : List (List ℕ)) (k : ℕ) → slice_get (xs ++ ys) (length xs + k) ≡ slice_get ys k
slice_get-append_right [] ys k = ap (λ n. slice_get ys n) (omega arith)
slice_get-append_right (x ∷ xs) ys k =
    let longer : suc (length xs) + k ≡ suc (length xs + k) = omega arith in
    ap (λ n. slice_get (x ∷ (xs ++ ys)) n) longer ∙ slice_get-append_right xs ys k

slice_get-row : (b : ℕ × ℕ) (slower : List ℕ) (k : ℕ) → k < extent b → slice_get (row b slower) k ≡ Some ((b.0 + k) ∷ slower)
unfolding row
slice_get-row b slower k h =
    let inside : k < length (range_with_len b.0 (extent b)) = omega (arith, length-range_with_len b.0 (extent b)) in
    slice_get-map (λ x. x ∷ slower) (range_with_len b.0 (extent b)) k
    ∙ ap (option_map (λ x. x ∷ slower)) (slice_get-get_or (range_with_len b.0 (extent b)) k 0 inside ∙ ap Some (get_or-range_with_len b.0 (extent b) k 0 h))

-- the k-th point of rows of equal length stands in row k / extent, at k % extent
slice_get-rows : (b : ℕ × ℕ) → 0 < extent b → (ps : List (List ℕ)) (k : ℕ) → slice_get (flat_map (row b) ps) k ≡ option_map (λ slower. (b.0 + k % extent b) ∷ slower) (slice_get ps (k / extent b))
slice_get-rows b pos [] k = refl
slice_get-rows b pos (p ∷ ps) k =
    ⊎_elim
    (λ h.
    let quotient : k / extent b ≡ 0 = div-eq_of_lt h in
    let remainder : k % extent b ≡ k = mod-eq_of_lt h in
    slice_get-append_left (row b p) (flat_map (row b) ps) k (omega (arith, length-row b p))
    ∙ slice_get-row b p k h
    ∙ sym (ap (λ n. option_map (λ slower. (b.0 + k % extent b) ∷ slower) (slice_get (p ∷ ps) n)) quotient ∙ ap (λ n. Some ((b.0 + n) ∷ p)) remainder))
    (λ h.
    let split : k ≡ length (row b p) + (k - extent b) = omega (arith, length-row b p) in
    let quotient : k / extent b ≡ suc ((k - extent b) / extent b) = omega (arith, div-eq-sub-div pos h) in
    let remainder : k % extent b ≡ (k - extent b) % extent b = mod-eq-sub-mod h in
    ap (λ n. slice_get (row b p ++ flat_map (row b) ps) n) split
    ∙ slice_get-append_right (row b p) (flat_map (row b) ps) (k - extent b)
    ∙ slice_get-rows b pos ps (k - extent b)
    ∙ sym (ap (λ n. option_map (λ slower. (b.0 + k % extent b) ∷ slower) (slice_get (p ∷ ps) n)) quotient
    ∙ ap (λ n. option_map (λ slower. (b.0 + n) ∷ slower) (slice_get ps ((k - extent b) / extent b))) remainder))
    (cases_lt k (extent b))

-- an empty axis leaves no place
pub positive_extent : (b : ℕ × ℕ) (bs : List (ℕ × ℕ)) (k : ℕ) → k < size (b ∷ bs) → 0 < extent b
positive_extent b bs k h =
    ⊎_elim
    (λ (small : extent b < 1).
    let none : extent b ≡ 0 = omega arith in
    let nothing : extent b * size bs ≡ 0 = rw none (omega arith) in
    absurd (omega arith))
    (λ (positive : 1 ≤ extent b). positive)
    (cases_lt (extent b) 1)

quotient_below : (b : ℕ × ℕ) (bs : List (ℕ × ℕ)) (k : ℕ) → 0 < extent b → k < size (b ∷ bs) → k / extent b < size bs
quotient_below b bs k pos h = div_below k (extent b) (size bs) pos (omega (arith, mul_comm (size bs) (extent b)))

-- the point at a place of the list
pub slice_get-points : (bs : List (ℕ × ℕ)) (k : ℕ) → k < size bs → slice_get (points bs) k ≡ Some (point_of bs k)
unfolding row
slice_get-points [] k h =
    let first : k ≡ 0 = omega arith in
    ap (λ n. slice_get ([] ∷ []) n) first
slice_get-points (b ∷ bs) k h =
    let pos : 0 < extent b = positive_extent b bs k h in
    slice_get-rows b pos (points bs) k
    ∙ ap (option_map (λ slower. (b.0 + k % extent b) ∷ slower)) (slice_get-points bs (k / extent b) (quotient_below b bs k pos h))

-- it lies in the region, and has that place
pub LiesIn-point_of : (bs : List (ℕ × ℕ)) (k : ℕ) → k < size bs → LiesIn bs (point_of bs k)
LiesIn-point_of [] k h = tt
LiesIn-point_of (b ∷ bs) k h =
    let pos : 0 < extent b = positive_extent b bs k h in
    let small : k % extent b < extent b = mod-lt k pos in
    (omega arith, omega arith, LiesIn-point_of bs (k / extent b) (quotient_below b bs k pos h))

pub place_of-point_of : (bs : List (ℕ × ℕ)) (k : ℕ) → k < size bs → place_of bs (point_of bs k) ≡ k
place_of-point_of [] k h = omega arith
place_of-point_of (b ∷ bs) k h =
    let pos : 0 < extent b = positive_extent b bs k h in
    let slower : place_of bs (point_of bs (k / extent b)) ≡ k / extent b = place_of-point_of bs (k / extent b) (quotient_below b bs k pos h) in
    let fastest : b.0 + k % extent b - b.0 ≡ k % extent b = omega arith in
    ap (λ n. (b.0 + k % extent b - b.0) + extent b * n) slower ∙ ap (λ n. n + extent b * (k / extent b)) fastest ∙ mod-add-div k (extent b)

-- a point of the region has a place, at which it stands
pub place_of-lt : (bs : List (ℕ × ℕ)) (p : List ℕ) → LiesIn bs p → place_of bs p < size bs
place_of-lt [] [] h = omega arith
place_of-lt [] (x ∷ xs) h = absurd h
place_of-lt (b ∷ bs) [] h = absurd h
place_of-lt (b ∷ bs) (x ∷ xs) h =
    let slower : place_of bs xs < size bs = place_of-lt bs xs h.2 in
    let fastest : x - b.0 < extent b = omega (arith, h.0, h.1) in
    omega (arith, mul-add-lt (place_of bs xs) (extent b) (x - b.0) (size bs) slower fastest, mul_comm (place_of bs xs) (extent b))

pub point_of-place_of : (bs : List (ℕ × ℕ)) (p : List ℕ) → LiesIn bs p → point_of bs (place_of bs p) ≡ p
point_of-place_of [] [] h = refl
point_of-place_of [] (x ∷ xs) h = absurd h
point_of-place_of (b ∷ bs) [] h = absurd h
point_of-place_of (b ∷ bs) (x ∷ xs) h =
    let fastest : x - b.0 < extent b = omega (arith, h.0, h.1) in
    let turned : place_of (b ∷ bs) (x ∷ xs) ≡ place_of bs xs * extent b + (x - b.0) = omega (arith, mul_comm (place_of bs xs) (extent b)) in
    let remainder : place_of (b ∷ bs) (x ∷ xs) % extent b ≡ x - b.0 = ap (λ n. n % extent b) turned ∙ mod-mul-add (place_of bs xs) (extent b) (x - b.0) fastest in
    let quotient : place_of (b ∷ bs) (x ∷ xs) / extent b ≡ place_of bs xs = ap (λ n. n / extent b) turned ∙ div-mul-add (place_of bs xs) (extent b) (x - b.0) fastest in
    let coordinate : b.0 + place_of (b ∷ bs) (x ∷ xs) % extent b ≡ x = omega (arith, remainder, h.0) in
    ap (λ n. n ∷ point_of bs (place_of (b ∷ bs) (x ∷ xs) / extent b)) coordinate
    ∙ ap (λ n. x ∷ point_of bs n) quotient
    ∙ ap (λ t. x ∷ t) (point_of-place_of bs xs h.2)

pub slice_get-place_of : (bs : List (ℕ × ℕ)) (p : List ℕ) → LiesIn bs p → slice_get (points bs) (place_of bs p) ≡ Some p
slice_get-place_of bs p h = slice_get-points bs (place_of bs p) (place_of-lt bs p h) ∙ ap Some (point_of-place_of bs p h)

-- what stands in the list lies in the region, at its own place
pub LiesIn-slice_get : (bs : List (ℕ × ℕ)) (k : ℕ) (p : List ℕ) → slice_get (points bs) k ≡ Some p → LiesIn bs p × (place_of bs p ≡ k)
LiesIn-slice_get bs k p h =
    let inside : k < size bs = omega (arith, slice_get_within (points bs) k p h, length-points bs) in
    let same : point_of bs k ≡ p = same_Some (point_of bs k) p (sym (slice_get-points bs k inside) ∙ h) in
    (subst (λ q. LiesIn bs q) same (LiesIn-point_of bs k inside), ap (place_of bs) (sym same) ∙ place_of-point_of bs k inside)
