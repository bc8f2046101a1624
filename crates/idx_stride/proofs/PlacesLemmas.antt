-- The places of a walk: by its slowest axis, from another place, and without the axes of one coordinate.
use Rattle.std.proofs.Common.{◌≡◌, ℕ, ◌+◌, ◌*◌, Bool, true, false, cond, not, ◌&&◌, List, [], ◌∷◌, ◌++◌, map, filter, refl, sym, ap, ◌∙◌, append-nil, add_assoc}
use Rattle.std.specs.List.{flat_map, range_with_len}
use Rattle.std.proofs.lemmas.List.Concat.{flat_map_single}
use Rattle.std.proofs.lemmas.List.Folds.{flat_map-map}
use Rattle.std.proofs.Math.Bool.{and_assoc}
use Rattle.idx_stride.specs.declared.axis.Axis.{Axis}
use Rattle.idx_stride.specs.Places.{is_coarse, places, offsets, samples_at}
use Rattle.idx_stride.proofs.RangeLemmas.{flat_map-of_flat_map, map-of_flat_map, filter-of_flat_map, map-of_map}

-- the points of one more axis behind a point
abbrev pub row_of : Axis → ℕ × Bool → List (ℕ × Bool)
row_of a p = map (λ k. (p.0 + k * a.step, p.1 && is_coarse a k)) (range_with_len 0 a.count)

abbrev pub is_kept : ℕ × Bool → Bool
is_kept p = not p.1

abbrev pub place : ℕ × Bool → ℕ
place p = p.0

-- the places by the slowest axis
pub places-snoc : (base : ℕ) (coarse : Bool) (faster : List Axis) (a : Axis) →
    places base coarse (faster ++ a ∷ []) ≡ flat_map (λ k. places (base + k * a.step) (coarse && is_coarse a k) faster) (range_with_len 0 a.count)
places-snoc base coarse [] a =
    append-nil (row_of a (base, coarse))
    ∙ sym (flat_map_single (λ (k : ℕ). (base + k * a.step, coarse && is_coarse a k)) (range_with_len 0 a.count))
places-snoc base coarse (b ∷ faster) a =
    ap (flat_map (row_of b)) (places-snoc base coarse faster a)
    ∙ flat_map-of_flat_map (row_of b) (λ (k : ℕ). places (base + k * a.step) (coarse && is_coarse a k) faster) (range_with_len 0 a.count)

pub offsets-snoc : (base : ℕ) (coarse : Bool) (faster : List Axis) (a : Axis) →
    offsets base coarse (faster ++ a ∷ []) ≡ flat_map (λ k. offsets (base + k * a.step) (coarse && is_coarse a k) faster) (range_with_len 0 a.count)
offsets-snoc base coarse faster a =
    let pieces : ℕ → List (ℕ × Bool) = λ k. places (base + k * a.step) (coarse && is_coarse a k) faster in
    ap (λ ps. map place (filter is_kept ps)) (places-snoc base coarse faster a)
    ∙ ap (map place) (filter-of_flat_map is_kept pieces (range_with_len 0 a.count))
    ∙ map-of_flat_map place (λ k. filter is_kept (pieces k)) (range_with_len 0 a.count)

pub samples-snoc : (size : ℕ) (bytes : List ℕ) (base : ℕ) (coarse : Bool) (faster : List Axis) (a : Axis) →
    samples_at size bytes (offsets base coarse (faster ++ a ∷ [])) ≡ flat_map (λ k. samples_at size bytes (offsets (base + k * a.step) (coarse && is_coarse a k) faster)) (range_with_len 0 a.count)
samples-snoc size bytes base coarse faster a =
    ap (samples_at size bytes) (offsets-snoc base coarse faster a)
    ∙ flat_map-of_flat_map _ (λ (k : ℕ). offsets (base + k * a.step) (coarse && is_coarse a k) faster) (range_with_len 0 a.count)

-- a point further on, and coarse only where this is true too
abbrev pub moved : ℕ → Bool → ℕ × Bool → ℕ × Bool
moved further also p = (further + p.0, also && p.1)

pub places-moved : (further : ℕ) (also : Bool) (base : ℕ) (coarse : Bool) (axes : List Axis) → places (further + base) (also && coarse) axes ≡ map (moved further also) (places base coarse axes)
places-moved further also base coarse [] = refl
places-moved further also base coarse (a ∷ slower) =
    let ps : List (ℕ × Bool) = places base coarse slower in
    let each : (p : ℕ × Bool) → row_of a (moved further also p) ≡ map (moved further also) (row_of a p) = λ p.
    (λ i. map (λ k. (add_assoc further p.0 (k * a.step) i, and_assoc also p.1 (is_coarse a k) i)) (range_with_len 0 a.count))
    ∙ sym (map-of_map (moved further also) (λ (k : ℕ). (p.0 + k * a.step, p.1 && is_coarse a k)) (range_with_len 0 a.count)) in
    ap (flat_map (row_of a)) (places-moved further also base coarse slower)
    ∙ flat_map-map (row_of a) (moved further also) ps
    ∙ (λ i. flat_map (λ p. each p i) ps)
    ∙ sym (map-of_flat_map (moved further also) (row_of a) ps)

-- places of a walk that begins further on
pub offsets-moved : (further base : ℕ) (coarse : Bool) (axes : List Axis) → offsets (further + base) coarse axes ≡ map (λ o. further + o) (offsets base coarse axes)
offsets-moved further base coarse axes =
    let ps : List (ℕ × Bool) = places base coarse axes in
    ap (λ qs. map place (filter is_kept qs)) (places-moved further true base coarse axes) ∙ kept ps
  where
    kept : (ps : List (ℕ × Bool)) → map place (filter is_kept (map (moved further true) ps)) ≡ map (λ o. further + o) (map place (filter is_kept ps))
    kept [] = refl
    kept (p ∷ ps) =
        elim p.1 as (λ b. map place (cond (not b) (moved further true p ∷ filter is_kept (map (moved further true) ps)) (filter is_kept (map (moved further true) ps))) ≡ map
        (λ o. further + o) (map place (cond (not b) (p ∷ filter is_kept ps) (filter is_kept ps)))) [
          | true ↦ kept ps
          | false ↦ ap (λ t. (further + p.0) ∷ t) (kept ps)
        ]
