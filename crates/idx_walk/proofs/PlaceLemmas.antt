-- The places of the points on strides, axis by axis.
use Rattle.std.proofs.Common.{◌≡◌, ℕ, ◌+◌, ◌-◌, ◌*◌, ◌/◌, ◌%◌, ◌<◌, ◌≤◌, Bool, true, ◌&&◌, eqb, List, [], ◌∷◌, map, filter, sym, ap, ◌∙◌, inl, inr, arith}
use Rattle.std.specs.Prelude.{not}
use Rattle.std.specs.List.{range_with_len, flat_map}
use Rattle.std.proofs.lemmas.Bool.{eqb-true, eq-eqb, cases_lt}
use Rattle.std.proofs.lemmas.Bool.Decides.{same_from_decides}
use Rattle.std.proofs.lemmas.List.Folds.{flat_map-map}
use Rattle.std.proofs.lemmas.Nat.{div-add-mod', mod-mul-add}
use Rattle.std.proofs.lemmas.Simd.{map-map}
use Rattle.std.proofs.Math.Bool.{and_assoc, and-true}
use Rattle.std.proofs.Math.Nat.{mul-le-mul_right, mul_assoc, mul_comm, mod-lt}
use Rattle.idx_geom.specs.Region.{points, extent, place_of, LiesIn, lower_ends}
use Rattle.idx_geom.proofs.EndsLemmas.{IsOrdered}
use Rattle.idx_stride.specs.declared.axis.Axis.{Axis}
use Rattle.idx_stride.specs.Places.{is_coarse, places, offsets}
use Rattle.idx_lanes.specs.Axis.{on, step_of}
use Rattle.idx_lanes.proofs.AxisLemmas.{times-step_of}
use Rattle.idx_walk.specs.Progression.{phase_of, axis_at}
use Rattle.idx_walk.proofs.ListLemmas.{filter-map, filter-filter, flat_map-agree, map-agree, map-range-agree, map-flat_map}
use Rattle.idx_walk.proofs.GridLemmas.{progression, first_multiple, lattice, filter-on}

-- the axes from number k on, of an extent and a region
abbrev pub axes_of : (ℕ → ℕ) → (ℕ → ℕ) → ℕ → ℕ → List (ℕ × ℕ) → List (ℕ × ℕ) → List Axis
axes_of s r weight k (e ∷ es) (b ∷ bs) = axis_at weight (s k) (r k) b ∷ axes_of s r (weight * extent e) (k + 1) es bs
axes_of s r weight k _ _ = []

-- how far the first point of these axes lies behind the extent's lower ends
abbrev pub start_of : (ℕ → ℕ) → ℕ → ℕ → List (ℕ × ℕ) → List (ℕ × ℕ) → ℕ
start_of s weight k (e ∷ es) (b ∷ bs) = (phase_of (s k) b.0 * s k - e.0) * weight + start_of s (weight * extent e) (k + 1) es bs
start_of s weight k _ _ = 0

-- a product is 0 where its first factor is
zero_from_product : (m s : ℕ) → 0 < s → m * s ≡ 0 → m ≡ 0
zero_from_product m s some none =
    elim (cases_lt m 1) [
      | inl less ↦ omega arith
      | inr more ↦ absurd (omega (arith, mul-le-mul_right s more))
    ]

-- a multiple of the stride is one of the coarse stride where the ratio divides its number
pub coarse-multiple : (s r n : ℕ) → 0 < s → 0 < r → eqb ((n * s) % (s * r)) 0 ≡ eqb (n % r) 0
coarse-multiple s r n some paced =
    let small : n % r + 1 ≤ r = omega (arith, mod-lt n paced) in
    let below : n % r * s < s * r = omega (arith, mul-le-mul_right s small, mul_comm s r) in
    let split : n * s ≡ n / r * (s * r) + n % r * s =
    ap (λ t. t * s) (sym (div-add-mod' n r)) ∙ omega (arith, mul_assoc (n / r) r s, mul_comm s r, ap (λ t. n / r * t) (mul_comm s r)) in
    let turned : (n * s) % (s * r) ≡ n % r * s = ap (λ t. t % (s * r)) split ∙ mod-mul-add (n / r) (s * r) (n % r * s) below in
    same_from_decides (eqb ((n * s) % (s * r)) 0) (eqb (n % r) 0)
    (eqb-true ((n * s) % (s * r)) 0, eq-eqb ((n * s) % (s * r)) 0) (
      (λ t. turned ∙ ap (λ m. m * s) (eqb-true (n % r) 0 t) ∙ omega arith),
      (λ e. eq-eqb (n % r) 0 (zero_from_product (n % r) s some (sym turned ∙ e))),
    )

-- the first point of an axis and k steps from there
step_along : (base phase k s low weight width far : ℕ) → low ≤ phase * s →
    base + (phase * s - low) * weight + weight * width * far + k * (s * weight) ≡ base + weight * (((phase + k) * s - low) + width * far)
step_along base phase k s low weight width far first =
    let here : (phase + k) * s - low ≡ (phase * s - low) + k * s = omega arith in
    let spread : weight * ((phase * s - low) + k * s + width * far) ≡ (phase * s - low) * weight + k * (s * weight) + weight * width * far =
    omega (arith, mul_assoc weight width far, mul_assoc k s weight, mul_comm weight (k * s), mul_comm weight (phase * s - low)) in
    omega (arith, spread, ap (λ t. weight * (t + width * far)) here)

-- a point's place, and whether it is coarse
abbrev pub placed : (ℕ → ℕ) → ℕ → ℕ → ℕ → Bool → List (ℕ × ℕ) → List ℕ → ℕ × Bool
placed c base weight k coarse es p = (base + weight * place_of es p, coarse && on c k p)

-- the places of a walk are those of the points on the strides
pub places-lattice : (s r : ℕ → ℕ) → ((k : ℕ) → 0 < s k) → ((k : ℕ) → 0 < r k) → (base weight k : ℕ) (coarse : Bool) (es bs : List (ℕ × ℕ)) → LiesIn es (lower_ends bs) →
    places (base + start_of s weight k es bs) coarse (axes_of s r weight k es bs) ≡ map (placed (λ a. s a * r a) base weight k coarse es) (lattice s k bs)
places-lattice s r some paced base weight k coarse [] [] inside = λ i. let at : base + 0 ≡ base + weight * 0 = omega arith in let all : coarse ≡ (coarse && true) = sym (and-true coarse) in
    (at i, all i) ∷ []
places-lattice s r some paced base weight k coarse [] (b ∷ bs) inside = absurd inside
places-lattice s r some paced base weight k coarse (e ∷ es) [] inside = absurd inside
places-lattice s r some paced base weight k coarse (e ∷ es) (b ∷ bs) inside =
    let a : Axis = axis_at weight (s k) (r k) b in
    let c : ℕ → ℕ = λ n. s n * r n in
    let width : ℕ = extent e in
    let phase : ℕ = phase_of (s k) b.0 in
    let from : ℕ = base + (phase * s k - e.0) * weight in
    let start : base + start_of s weight k (e ∷ es) (b ∷ bs) ≡ from + start_of s (weight * width) (k + 1) es bs = omega arith in
    let low : e.0 ≤ phase * s k = omega (arith, inside.0, first_multiple (s k) b.0 (some k)) in
    let row : ℕ × Bool → List (ℕ × Bool) = λ p. map (λ j. (p.0 + j * a.step, p.1 && is_coarse a j)) (range_with_len 0 a.count) in
    let step : ℕ = step_of weight (s k) a.count in
    let point : (q : List ℕ) (j : ℕ) → j < a.count →
    (from + weight * width * place_of es q + j * step, (coarse && on c (k + 1) q) && is_coarse a j) ≡ placed c base weight k coarse (e ∷ es) (((phase + j) * s k) ∷ q) = λ q j within.
    let at : from + weight * width * place_of es q + j * step ≡ base + weight * (((phase + j) * s k - e.0) + width * place_of es q) =
    ap (λ t. from + weight * width * place_of es q + t) (times-step_of weight (s k) a.count j within) ∙ step_along base phase j (s k) e.0 weight width (place_of es q) low in
    let all : ((coarse && on c (k + 1) q) && is_coarse a j) ≡ (coarse && (on c (k + 1) q && eqb (((phase + j) * s k) % c k) 0)) =
    and_assoc coarse (on c (k + 1) q) (is_coarse a j) ∙ ap (λ t. coarse && (on c (k + 1) q && t)) (sym (coarse-multiple (s k) (r k) (phase + j) (some k) (paced k))) in
    λ i. (at i, all i) in
    let line : (q : List ℕ) → row (placed c from (weight * width) (k + 1) coarse es q) ≡ map (placed c base weight k coarse (e ∷ es)) (map (λ x. x ∷ q) (progression (s k) b)) = λ q.
    map-range-agree _ _ 0 a.count a.count (omega arith) (point q)
    ∙ sym (map-map (λ x. placed c base weight k coarse (e ∷ es) (x ∷ q)) (λ j. (phase + j) * s k) (range_with_len 0 a.count))
    ∙ sym (map-map (placed c base weight k coarse (e ∷ es)) (λ x. x ∷ q) (progression (s k) b)) in
    ap (λ t. flat_map row (places t coarse (axes_of s r (weight * width) (k + 1) es bs))) start
    ∙ ap (flat_map row) (places-lattice s r some paced from (weight * width) (k + 1) coarse es bs inside.2)
    ∙ flat_map-map row (placed c from (weight * width) (k + 1) coarse es) (lattice s (k + 1) bs)
    ∙ flat_map-agree _ _ line (lattice s (k + 1) bs)
    ∙ sym (map-flat_map (placed c base weight k coarse (e ∷ es)) (λ slower. map (λ x. x ∷ slower) (progression (s k) b)) (lattice s (k + 1) bs))

-- the places that a walk visits are those of the points on the strides, without those on the coarse ones
pub offsets-of_points : (s r : ℕ → ℕ) → ((k : ℕ) → 0 < s k) → ((k : ℕ) → 0 < r k) → (weight : ℕ) (coarse : Bool) (es bs : List (ℕ × ℕ)) → LiesIn es (lower_ends bs) → IsOrdered bs →
    offsets (start_of s weight 0 es bs) coarse (axes_of s r weight 0 es bs) ≡ map (λ p. weight * place_of es p) (filter (λ p. on s 0 p && not (coarse && on (λ a. s a * r a) 0 p)) (points bs))
offsets-of_points s r some paced weight coarse es bs inside ordered =
    let c : ℕ → ℕ = λ a. s a * r a in
    let h : List ℕ → ℕ × Bool = placed c 0 weight 0 coarse es in
    let front : start_of s weight 0 es bs ≡ 0 + start_of s weight 0 es bs = omega arith in
    ap (λ t. offsets t coarse (axes_of s r weight 0 es bs)) front
    ∙ ap (λ t. map (λ p. p.0) (filter (λ p. not p.1) t)) (places-lattice s r some paced 0 weight 0 coarse es bs inside)
    ∙ ap (map (λ p. p.0)) (filter-map (λ p. not p.1) h (lattice s 0 bs))
    ∙ map-map (λ p. p.0) h (filter (λ p. not (coarse && on c 0 p)) (lattice s 0 bs))
    ∙ map-agree _ (λ p. weight * place_of es p) (λ p. omega arith) (filter (λ p. not (coarse && on c 0 p)) (lattice s 0 bs))
    ∙ ap (λ t. map (λ p. weight * place_of es p) (filter (λ p. not (coarse && on c 0 p)) t)) (sym (filter-on s some 0 bs ordered))
    ∙ ap (map (λ p. weight * place_of es p)) (filter-filter (on s 0) (λ p. not (coarse && on c 0 p)) (points bs))
