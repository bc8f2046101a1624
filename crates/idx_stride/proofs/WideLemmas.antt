-- A walk without the axes of one coordinate has the same places.
use Rattle.std.proofs.Common.{◌≡◌, ℕ, suc, ◌+◌, ◌-◌, ◌*◌, ◌<◌, ◌≤◌, Bool, true, false, cond, ◌&&◌, ◌||◌, List, [], ◌∷◌, length, map, filter, refl, sym, ap, ◌∙◌, arith, All}
use Rattle.std.specs.List.{flat_map, range_with_len, list_all}
use Rattle.std.proofs.lemmas.Bool.{ltb-true, ltb-false}
use Rattle.std.proofs.lemmas.List.Concat.{flat_map_single}
use Rattle.std.proofs.lemmas.List.Elements.{All-nil, All-cons, All-head, All-tail}
use Rattle.std.proofs.Math.Bool.{and_assoc, and_comm}
use Rattle.idx_stride.specs.declared.axis.Axis.{Axis}
use Rattle.idx_stride.specs.Compact.{is_wide, is_wide_or_coarse}
use Rattle.idx_stride.specs.Places.{is_coarse, places}
use Rattle.idx_stride.specs.Strides.{IsAxis, reach, grid_points}
use Rattle.idx_stride.proofs.PlacesLemmas.{row_of, moved, places-moved}

-- an axis of one coordinate adds nothing to the places
pub places-narrow : (base : ℕ) (coarse : Bool) (a : Axis) (slower : List Axis) → a.count ≡ 1 → places base coarse (a ∷ slower) ≡ places base (is_coarse a 0 && coarse) slower
places-narrow base coarse a slower one =
    let ps : List (ℕ × Bool) = places base coarse slower in
    let b : Bool = is_coarse a 0 in
    let base_moved : 0 + base ≡ base = omega arith in
    let each : (p : ℕ × Bool) → row_of a p ≡ moved 0 b p ∷ [] = λ p.
    let here : p.0 + 0 * a.step ≡ 0 + p.0 = omega arith in
    ap (λ n. map (λ k. (p.0 + k * a.step, p.1 && is_coarse a k)) (range_with_len 0 n)) one
    ∙ (λ i. (here i, and_comm p.1 b i) ∷ []) in
    (λ i. flat_map (λ p. each p i) ps)
    ∙ flat_map_single (moved 0 b) ps
    ∙ sym (places-moved 0 b base coarse slower)
    ∙ ap (λ o. places o (b && coarse) slower) base_moved

pub places-wide : (base : ℕ) (coarse : Bool) (axes : List Axis) → All IsAxis axes → places base (list_all is_wide_or_coarse axes && coarse) (filter is_wide axes) ≡ places base coarse axes
places-wide base coarse [] valid = refl
places-wide base coarse (a ∷ slower) valid =
    let here : IsAxis a = All-head IsAxis a slower valid in
    let rest : (c : Bool) → places base (list_all is_wide_or_coarse slower && c) (filter is_wide slower) ≡ places base c slower = λ c. places-wide base c slower (All-tail IsAxis a slower valid) in
    let F : Bool → Type 0 = λ w. is_wide a ≡ w →
    places base ((w || is_coarse a 0) && list_all is_wide_or_coarse slower && coarse) (cond w (a ∷ filter is_wide slower) (filter is_wide slower)) ≡ places base coarse (a ∷ slower) in
    let by_width : F (is_wide a) = elim (is_wide a) as (λ w. F w) [
      | true ↦ (λ e. ap (flat_map (row_of a)) (rest coarse))
      | false ↦ (λ e.
          let one : a.count ≡ 1 = omega (arith, ltb-false 1 a.count e, here.counted) in
          let all : Bool = list_all is_wide_or_coarse slower in
          let b : Bool = is_coarse a 0 in
          ap (λ c. places base c (filter is_wide slower)) (ap (λ t. t && coarse) (and_comm b all) ∙ and_assoc all b coarse)
          ∙ rest (b && coarse)
          ∙ sym (places-narrow base coarse a slower one))
    ] in
    by_width refl

pub reach-wide : (axes : List Axis) → All IsAxis axes → reach (filter is_wide axes) ≡ reach axes
reach-wide [] valid = refl
reach-wide (a ∷ slower) valid =
    let here : IsAxis a = All-head IsAxis a slower valid in
    let rest : reach (filter is_wide slower) ≡ reach slower = reach-wide slower (All-tail IsAxis a slower valid) in
    let F : Bool → Type 0 = λ w. is_wide a ≡ w → reach (cond w (a ∷ filter is_wide slower) (filter is_wide slower)) ≡ reach (a ∷ slower) in
    let by_width : F (is_wide a) = elim (is_wide a) as (λ w. F w) [
      | true ↦ (λ e. ap (λ n. (a.count - 1) * a.step + n) rest)
      | false ↦ (λ e.
          let none : a.count - 1 ≡ 0 = omega (arith, ltb-false 1 a.count e) in
          let nothing : (a.count - 1) * a.step ≡ 0 = ap (λ n. n * a.step) none ∙ omega arith in
          omega arith)
    ] in
    by_width refl

pub grid_points-wide : (axes : List Axis) → All IsAxis axes → grid_points (filter is_wide axes) ≡ grid_points axes
grid_points-wide [] valid = refl
grid_points-wide (a ∷ slower) valid =
    let here : IsAxis a = All-head IsAxis a slower valid in
    let rest : grid_points (filter is_wide slower) ≡ grid_points slower = grid_points-wide slower (All-tail IsAxis a slower valid) in
    let F : Bool → Type 0 = λ w. is_wide a ≡ w → grid_points (cond w (a ∷ filter is_wide slower) (filter is_wide slower)) ≡ grid_points (a ∷ slower) in
    let by_width : F (is_wide a) = elim (is_wide a) as (λ w. F w) [
      | true ↦ (λ e. ap (λ n. a.count * n) rest)
      | false ↦ (λ e.
          let one : 1 ≡ a.count = omega (arith, ltb-false 1 a.count e, here.counted) in
          let same : 1 * grid_points slower ≡ a.count * grid_points slower = ap (λ n. n * grid_points slower) one in
          omega arith)
    ] in
    by_width refl

pub length-wide : (axes : List Axis) → length (filter is_wide axes) ≤ length axes
length-wide [] = omega arith
length-wide (a ∷ slower) =
    let rest : length (filter is_wide slower) ≤ length slower = length-wide slower in
    elim (is_wide a) as (λ w. length (cond w (a ∷ filter is_wide slower) (filter is_wide slower)) ≤ suc (length slower)) [ true ↦ omega arith | false ↦ omega arith ]

-- each axis that is kept has more than one coordinate
pub All-wide : (axes : List Axis) → All (λ a. 1 < a.count) (filter is_wide axes)
All-wide [] = All-nil (λ (a : Axis). 1 < a.count)
All-wide (a ∷ slower) =
    let P : Axis → Type 0 = λ a. 1 < a.count in
    let F : Bool → Type 0 = λ w. is_wide a ≡ w → All P (cond w (a ∷ filter is_wide slower) (filter is_wide slower)) in
    let by_width : F (is_wide a) = elim (is_wide a) as (λ w. F w) [
      | true ↦ (λ e. All-cons P a (filter is_wide slower) (ltb-true 1 a.count e) (All-wide slower))
      | false ↦ (λ e. All-wide slower)
    ] in
    by_width refl
