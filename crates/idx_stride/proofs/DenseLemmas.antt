-- Progressions, and walks that leave no gap.
use Rattle.std.proofs.Common.{◌≡◌, ℕ, zero, suc, ◌+◌, ◌*◌, Bool, false, ◌&&◌, List, [], ◌∷◌, ◌++◌, length, take, drop, map, filter, refl, sym, ap, ◌∙◌, arith, append_assoc, append-nil}
use Rattle.std.specs.List.{flat_map, range_with_len}
use Rattle.std.proofs.lemmas.List.{drop-drop}
use Rattle.std.proofs.lemmas.List.Concat.{flat_map-append}
use Rattle.std.proofs.lemmas.List.Folds.{flat_map-map}
use Rattle.std.proofs.Math.Seq.{take-add}
use Rattle.idx_stride.specs.declared.axis.Axis.{Axis}
use Rattle.idx_stride.specs.Compact.{IsPacked}
use Rattle.idx_stride.specs.Places.{is_coarse, places, offsets, samples_at, progression}
use Rattle.idx_stride.specs.Strides.{grid_points}
use Rattle.idx_stride.proofs.CountLemmas.{length-offsets}
use Rattle.idx_stride.proofs.PlacesLemmas.{row_of, is_kept, place, moved, places-moved}
use Rattle.idx_stride.proofs.RangeLemmas.{map-of_flat_map, map-of_map}
use Rattle.idx_stride.proofs.SamplesLemmas.{progression-more, samples_at-progression-more}

pub progression-append : (first step m n : ℕ) → progression first step (m + n) ≡ progression first step m ++ progression (first + m * step) step n
progression-append first step m zero = ap (progression first step) (omega arith) ∙ sym (append-nil (progression first step m))
progression-append first step m (suc n) =
    let one : m + suc n ≡ m + n + 1 = omega arith in
    let two : n + 1 ≡ suc n = omega arith in
    let last : first + (m + n) * step ≡ first + m * step + n * step = omega arith in
    ap (progression first step) one
    ∙ progression-more first step (m + n)
    ∙ (λ i. progression-append first step m n i ++ last i ∷ [])
    ∙ append_assoc (progression first step m) (progression (first + m * step) step n) ((first + m * step + n * step) ∷ [])
    ∙ ap (λ t. progression first step m ++ t) (sym (progression-more (first + m * step) step n) ∙ ap (progression (first + m * step) step) two)

-- runs of so many, one behind the other, are one run
pub progression-blocks : (base width count n : ℕ) → flat_map (λ o. progression o width count) (progression base (width * count) n) ≡ progression base width (count * n)
progression-blocks base width count zero = let none : 0 ≡ count * 0 = omega arith in ap (progression base width) none
progression-blocks base width count (suc n) =
    let two : suc n ≡ n + 1 = omega arith in
    let last : base + n * (width * count) ≡ base + count * n * width = omega arith in
    let whole : count * n + count ≡ count * suc n = omega arith in
    ap (λ m. flat_map (λ o. progression o width count) (progression base (width * count) m)) two
    ∙ ap (flat_map (λ o. progression o width count)) (progression-more base (width * count) n)
    ∙ flat_map-append (λ o. progression o width count) (progression base (width * count) n) ((base + n * (width * count)) ∷ [])
    ∙ (λ i. progression-blocks base width count n i ++ append-nil (progression (last i) width count) i)
    ∙ sym (progression-append base width (count * n) count)
    ∙ ap (progression base width) whole

firsts-packed : (base width : ℕ) (coarse : Bool) (axes : List Axis) → IsPacked width axes → map place (places base coarse axes) ≡ progression base width (grid_points axes)
firsts-packed base width coarse [] packed =
    let here : base ≡ base + 0 * width = omega arith in
    λ i. here i ∷ []
firsts-packed base width coarse (a ∷ slower) packed =
    let ps : List (ℕ × Bool) = places base coarse slower in
    let each : (p : ℕ × Bool) → map place (row_of a p) ≡ progression p.0 width a.count = λ p.
    map-of_map place (λ (k : ℕ). (p.0 + k * a.step, p.1 && is_coarse a k)) (range_with_len 0 a.count)
    ∙ ap (λ s. progression p.0 s a.count) packed.0 in
    map-of_flat_map place (row_of a) ps
    ∙ (λ i. flat_map (λ p. each p i) ps)
    ∙ sym (flat_map-map (λ (o : ℕ). progression o width a.count) place ps)
    ∙ ap (flat_map (λ o. progression o width a.count)) (firsts-packed base (width * a.count) coarse slower packed.1)
    ∙ progression-blocks base width a.count (grid_points slower)

pub offsets-packed : (base width : ℕ) (axes : List Axis) → IsPacked width axes → offsets base false axes ≡ progression base width (length (offsets base false axes))
offsets-packed base width axes packed =
    let same : length (offsets base false axes) ≡ grid_points axes = omega (arith, length-offsets base false axes) in
    let base_moved : base ≡ 0 + base = omega arith in
    ap (λ qs. map place (filter is_kept qs)) (ap (λ b. places b false axes) base_moved ∙ places-moved 0 false base false axes)
    ∙ firsts (places base false axes)
    ∙ firsts-packed base width false axes packed
    ∙ ap (progression base width) (sym same)
  where
    firsts : (ps : List (ℕ × Bool)) → map place (filter is_kept (map (moved 0 false) ps)) ≡ map place ps
    firsts [] = refl
    firsts (p ∷ ps) = let here : 0 + p.0 ≡ p.0 = omega arith in λ i. here i ∷ firsts ps i

-- samples that leave no gap are one piece
pub samples_at-dense : (size : ℕ) (bytes : List ℕ) (first n : ℕ) → samples_at size bytes (progression first size n) ≡ take (n * size) (drop first bytes)
samples_at-dense size bytes first zero = let none : 0 ≡ 0 * size = omega arith in ap (λ m. take m (drop first bytes)) none
samples_at-dense size bytes first (suc n) =
    let two : suc n ≡ n + 1 = omega arith in
    let whole : n * size + size ≡ suc n * size = omega arith in
    ap (λ m. samples_at size bytes (progression first size m)) two
    ∙ samples_at-progression-more size bytes first size n
    ∙ (λ i. samples_at-dense size bytes first n i ++ take size (sym (drop-drop (n * size) first bytes) i))
    ∙ sym (take-add (n * size) size (drop first bytes))
    ∙ ap (λ m. take m (drop first bytes)) whole
