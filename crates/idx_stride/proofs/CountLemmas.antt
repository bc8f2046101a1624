-- How many places a walk has, and how many of them are left out.
use Rattle.std.proofs.Common.{◌≡◌, ℕ, suc, ◌+◌, ◌*◌, ◌≤◌, Bool, true, false, cond, not, ◌&&◌, List, [], ◌∷◌, length, map, filter, refl, sym, ap, ◌∙◌, arith, length-append}
use Rattle.std.specs.List.{flat_map, range_with_len, list_any}
use Rattle.std.proofs.lemmas.Bool.{ltb-false, or_parts}
use Rattle.std.proofs.lemmas.List.Elements.{filter-append}
use Rattle.std.proofs.lemmas.List.FromFn.{length-map-range_with_len}
use Rattle.idx_stride.specs.declared.axis.Axis.{Axis}
use Rattle.idx_stride.specs.Places.{is_coarse, places, offsets}
use Rattle.idx_stride.specs.Strides.{grid_points}
use Rattle.idx_stride.specs.Counts.{coarse_coordinates, coarse_points, has_fine_coordinate}
use Rattle.idx_stride.proofs.CoarseLemmas.{coarse-le-count}
use Rattle.idx_stride.proofs.PlacesLemmas.{row_of, is_kept, place, moved, places-moved}

abbrev pub is_flagged : ℕ × Bool → Bool
is_flagged p = p.1

pub length-map : {X Y : Type 0} (f : X → Y) (xs : List X) → length (map f xs) ≡ length xs
length-map f [] = refl
length-map f (x ∷ xs) = ap suc (length-map f xs)

-- each point is kept or left out
pub length-kept : (ps : List (ℕ × Bool)) → length (filter is_kept ps) + length (filter is_flagged ps) ≡ length ps
length-kept [] = refl
length-kept (p ∷ ps) =
    let rest : length (filter is_kept ps) + length (filter is_flagged ps) ≡ length ps = length-kept ps in
    elim p.1 as (λ b. length (cond (not b) (p ∷ filter is_kept ps) (filter is_kept ps)) + length (cond b (p ∷ filter is_flagged ps) (filter is_flagged ps)) ≡ suc (length ps)) [
      | true ↦ omega arith
      | false ↦ omega arith
    ]

length-rows : (a : Axis) (ps : List (ℕ × Bool)) → length (flat_map (row_of a) ps) ≡ a.count * length ps
length-rows a [] = omega arith
length-rows a (p ∷ ps) =
    omega (arith, length-append (row_of a p) (flat_map (row_of a) ps), length-rows a ps, length-map-range_with_len {X = ℕ × Bool} (λ k. (p.0 + k * a.step, p.1 && is_coarse a k)) 0 a.count)

pub length-places : (base : ℕ) (coarse : Bool) (axes : List Axis) → length (places base coarse axes) ≡ grid_points axes
length-places base coarse [] = refl
length-places base coarse (a ∷ slower) =
    length-rows a (places base coarse slower) ∙ ap (λ n. a.count * n) (length-places base coarse slower)

-- of the points of an axis behind a coarse one, those of the coarse coordinates are coarse
flagged-behind_coarse : (a : Axis) (base : ℕ) (ks : List ℕ) → length (filter is_flagged (map (λ k. (base + k * a.step, is_coarse a k)) ks)) ≡ length (filter (is_coarse a) ks)
flagged-behind_coarse a base [] = refl
flagged-behind_coarse a base (k ∷ ks) =
    let rest : length (filter is_flagged (map (λ k. (base + k * a.step, is_coarse a k)) ks)) ≡ length (filter (is_coarse a) ks) = flagged-behind_coarse a base ks in
    elim (is_coarse a k) as
    (λ b. length (cond b ((base + k * a.step, b) ∷ filter is_flagged (map (λ k. (base + k * a.step, is_coarse a k)) ks))
    (filter is_flagged (map (λ k. (base + k * a.step, is_coarse a k)) ks))) ≡ length (cond b (k ∷ filter (is_coarse a) ks) (filter (is_coarse a) ks))) [
      | true ↦ ap suc rest
      | false ↦ rest
    ]

flagged-behind_fine : (a : Axis) (base : ℕ) (ks : List ℕ) → length (filter is_flagged (map (λ k. (base + k * a.step, false && is_coarse a k)) ks)) ≡ 0
flagged-behind_fine a base [] = refl
flagged-behind_fine a base (k ∷ ks) = flagged-behind_fine a base ks

flagged-row : (a : Axis) (p : ℕ × Bool) → length (filter is_flagged (row_of a p)) ≡ cond p.1 (coarse_coordinates a) 0
flagged-row a p =
    elim p.1 as (λ b. length (filter is_flagged (row_of a (p.0, b))) ≡ cond b (coarse_coordinates a) 0) [
      | true ↦ flagged-behind_coarse a p.0 (range_with_len 0 a.count)
      | false ↦ flagged-behind_fine a p.0 (range_with_len 0 a.count)
    ]

flagged-rows : (a : Axis) (ps : List (ℕ × Bool)) → length (filter is_flagged (flat_map (row_of a) ps)) ≡ coarse_coordinates a * length (filter is_flagged ps)
flagged-rows a [] = omega arith
flagged-rows a (p ∷ ps) =
    let rest : length (filter is_flagged (flat_map (row_of a) ps)) ≡ coarse_coordinates a * length (filter is_flagged ps) = flagged-rows a ps in
    let parts : length (filter is_flagged (flat_map (row_of a) (p ∷ ps))) ≡ length (filter is_flagged (row_of a p)) + length (filter is_flagged (flat_map (row_of a) ps)) =
    ap length (filter-append is_flagged (row_of a p) (flat_map (row_of a) ps)) ∙ length-append (filter is_flagged (row_of a p)) (filter is_flagged (flat_map (row_of a) ps)) in
    let step : cond p.1 (coarse_coordinates a) 0 + coarse_coordinates a * length (filter is_flagged ps) ≡ coarse_coordinates a * length (cond p.1 (p ∷ filter is_flagged ps) (filter is_flagged ps)) =
    elim p.1 as (λ b. cond b (coarse_coordinates a) 0 + coarse_coordinates a * length (filter is_flagged ps) ≡ coarse_coordinates a * length
    (cond b (p ∷ filter is_flagged ps) (filter is_flagged ps))) [
      | true ↦ omega arith
      | false ↦ omega arith
    ] in
    parts ∙ (λ i. flagged-row a p i + rest i) ∙ step

pub flagged-places : (base : ℕ) (coarse : Bool) (axes : List Axis) → length (filter is_flagged (places base coarse axes)) ≡ cond coarse (coarse_points axes) 0
flagged-places base true [] = refl
flagged-places base false [] = refl
flagged-places base coarse (a ∷ slower) =
    flagged-rows a (places base coarse slower)
    ∙ ap (λ n. coarse_coordinates a * n) (flagged-places base coarse slower)
    ∙ elim coarse as (λ b. coarse_coordinates a * cond b (coarse_points slower) 0 ≡ cond b (coarse_coordinates a * coarse_points slower) 0) [
      | true ↦ refl
      | false ↦ omega arith
    ]

-- the samples, and the points that are left out, are all points
pub length-offsets : (base : ℕ) (coarse : Bool) (axes : List Axis) → length (offsets base coarse axes) + cond coarse (coarse_points axes) 0 ≡ grid_points axes
length-offsets base coarse axes =
    omega (
      arith,
      length-map place (filter is_kept (places base coarse axes)),
      length-kept (places base coarse axes),
      flagged-places base coarse axes,
      length-places base coarse axes,
    )

-- where all points are coarse, there is no sample
pub offsets-all_coarse : (base : ℕ) (axes : List Axis) → coarse_points axes ≡ grid_points axes → offsets base true axes ≡ []
offsets-all_coarse base axes same =
    let none : length (offsets base true axes) ≡ 0 = omega (arith, length-offsets base true axes) in
    empty (offsets base true axes) none
  where
    empty : (xs : List ℕ) → length xs ≡ 0 → xs ≡ []
    empty [] h = refl
    empty (x ∷ xs) h = cc

-- where no point is coarse, none is left out
pub offsets-none_coarse : (base : ℕ) (coarse : Bool) (axes : List Axis) → coarse_points axes ≡ 0 → offsets base coarse axes ≡ offsets base false axes
offsets-none_coarse base coarse axes none =
    let ps : List (ℕ × Bool) = places base coarse axes in
    let no_flag : length (filter is_flagged ps) ≡ 0 = flagged-places base coarse axes ∙ elim coarse as (λ b. cond b (coarse_points axes) 0 ≡ 0) [ true ↦ none | false ↦ refl ] in
    kept ps no_flag
    ∙ sym (firsts ps)
    ∙ sym (ap (λ qs. map place (filter is_kept qs)) (let base_moved : 0 + base ≡ base = omega arith in ap (λ b. places b false axes) (sym base_moved) ∙ places-moved 0 false base coarse axes))
  where
    kept : (ps : List (ℕ × Bool)) → length (filter is_flagged ps) ≡ 0 → map place (filter is_kept ps) ≡ map place ps
    kept [] h = refl
    kept (p ∷ ps) h =
        let F : Bool → Type 0 = λ b. length (cond b (p ∷ filter is_flagged ps) (filter is_flagged ps)) ≡ 0 →
        map place (cond (not b) (p ∷ filter is_kept ps) (filter is_kept ps)) ≡ p.0 ∷ map place ps in
        let by_flag : F p.1 = elim p.1 as (λ b. F b) [ true ↦ (λ e. cc e) | false ↦ (λ e. ap (λ t. p.0 ∷ t) (kept ps e)) ] in
        by_flag h

    firsts : (ps : List (ℕ × Bool)) → map place (filter is_kept (map (moved 0 false) ps)) ≡ map place ps
    firsts [] = refl
    firsts (p ∷ ps) = let here : 0 + p.0 ≡ p.0 = omega arith in λ i. here i ∷ firsts ps i

-- where no axis has a coordinate that is not coarse, all points are coarse
pub all_coarse : (axes : List Axis) → list_any has_fine_coordinate axes ≡ false → coarse_points axes ≡ grid_points axes
all_coarse [] none = refl
all_coarse (a ∷ slower) none =
    let parts = or_parts (has_fine_coordinate a) (list_any has_fine_coordinate slower) none in
    let here : coarse_coordinates a ≡ a.count = omega (arith, ltb-false (coarse_coordinates a) a.count parts.0, coarse-le-count a) in
    λ i. here i * all_coarse slower parts.1 i

pub coarse-le-grid : (axes : List Axis) → coarse_points axes ≤ grid_points axes
coarse-le-grid axes = omega (arith, length-offsets 0 true axes)
