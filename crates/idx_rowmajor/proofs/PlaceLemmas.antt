-- Row-major places in boxes whose extents are powers of two.
use Rattle.std.proofs.Common.{◌≡◌, ◌≢◌, ℕ, zero, suc, ◌+◌, ◌-◌, ◌*◌, ◌^◌, ◌<◌, ◌≤◌, List, [], ◌∷◌, length, map, refl, sym, ap, ◌∙◌, ⊎_elim, arith}
use Rattle.std.specs.Prelude.{if◌then◌else◌, ◌==◌}
use Rattle.std.specs.List.{range_with_len}
use Rattle.std.proofs.Math.Nat.{mul-le-mul_left, mul-le-mul_right}
use Rattle.std.proofs.lemmas.Bool.{cases_eq, cases_order, eq-eqb, ne_eqb}
use Rattle.std.proofs.lemmas.Nat.{pow_pos, pow-add, same_from_place}
use Rattle.std.proofs.lemmas.List.Elements.{All-head, All-tail}
use Rattle.idx_geom.specs.Region.{extent, place_of}
use Rattle.idx_geom.proofs.PointsLemmas.{size}
use Rattle.idx_hz.specs.Mask.{bit_count, NamesAxes}
use Rattle.idx_rowmajor.specs.RowPlace.{size_box}

-- ---- how many points

-- the sum over so many axes, from one on
abbrev pub total : (ℕ → ℕ) → ℕ → ℕ → ℕ
total f k zero = 0
total f k (suc n) = f k + total f (k + 1) n

abbrev pub one_at : ℕ → ℕ → ℕ
one_at d a = if d == a then 1 else 0

total-behind : (d k n : ℕ) → d < k → total (one_at d) k n ≡ 0
total-behind d k zero behind = refl
total-behind d k (suc n) behind =
    let other : d ≢ k = λ same. omega arith in
    rw (ne_eqb d k other) (omega (arith, total-behind d (k + 1) n (omega arith)))

total-one : (d k n : ℕ) → k ≤ d → d < k + n → total (one_at d) k n ≡ 1
total-one d k zero from to = absurd (omega arith)
total-one d k (suc n) from to = ⊎_elim
    (λ (same : d ≡ k). rw (eq-eqb d k same) (omega (arith, total-behind d (k + 1) n (omega arith))))
    (λ (other : d ≢ k). rw (ne_eqb d k other) (omega (arith, total-one d (k + 1) n (omega arith) (omega arith))))
    (cases_eq d k)

total-add : (f g : ℕ → ℕ) (k n : ℕ) → total (λ a. f a + g a) k n ≡ total f k n + total g k n
total-add f g k zero = refl
total-add f g k (suc n) = omega (arith, total-add f g (k + 1) n)

total-zero : (k n : ℕ) → total (λ _. 0) k n ≡ 0
total-zero k zero = refl
total-zero k (suc n) = omega (arith, total-zero (k + 1) n)

-- each digit is one of the axes
pub total-bits : (digits : List ℕ) (axes : ℕ) → NamesAxes digits axes → total (λ a. bit_count a digits) 0 axes ≡ length digits
total-bits [] axes named = total-zero 0 axes
total-bits (d ∷ finer) axes named =
    let within : d < axes = All-head (λ x. x < axes) d finer named in
    let rest : total (λ a. bit_count a finer) 0 axes ≡ length finer = total-bits finer axes (All-tail (λ x. x < axes) d finer named) in
    total-add (one_at d) (λ a. bit_count a finer) 0 axes ∙ omega (arith, total-one d 0 axes (omega arith) (omega arith))

wide : (n : ℕ) → extent (0, 2 ^ n - 1) ≡ 2 ^ n
wide n = omega (arith, pow_pos n)

size-powers : (f : ℕ → ℕ) (k n : ℕ) → size (map (λ a. (0, 2 ^ f a - 1)) (range_with_len k n)) ≡ 2 ^ total f k n
size-powers f k zero = refl
size-powers f k (suc n) =
    ap (λ e. e * size (map (λ a. (0, 2 ^ f a - 1)) (range_with_len (k + 1) n))) (wide (f k))
    ∙ ap (λ m. 2 ^ f k * m) (size-powers f (k + 1) n) ∙ sym (pow-add 2 (f k) (total f (k + 1) n))

-- as many points as the digits have addresses
pub size-size_box : (digits : List ℕ) (axes : ℕ) → NamesAxes digits axes → size (size_box digits axes) ≡ 2 ^ length digits
size-size_box digits axes named = size-powers (λ a. bit_count a digits) 0 axes ∙ ap (λ n. 2 ^ n) (total-bits digits axes named)

-- ---- places

-- the place of coordinates, by the bits of each axis
abbrev pub place_by : (ℕ → ℕ) → (ℕ → ℕ) → ℕ → ℕ → ℕ
place_by f x k zero = 0
place_by f x k (suc n) = x k + 2 ^ f k * place_by f x (k + 1) n

pub place_of-by : (f x : ℕ → ℕ) (k n : ℕ) → place_of (map (λ a. (0, 2 ^ f a - 1)) (range_with_len k n)) (map x (range_with_len k n)) ≡ place_by f x k n
place_of-by f x k zero = refl
place_of-by f x k (suc n) =
    let first : x k - 0 ≡ x k = omega arith in
    ap (λ m. m + extent (0, 2 ^ f k - 1) * place_of (map (λ a. (0, 2 ^ f a - 1)) (range_with_len (k + 1) n)) (map x (range_with_len (k + 1) n))) first
    ∙ ap (λ e. x k + e * place_of (map (λ a. (0, 2 ^ f a - 1)) (range_with_len (k + 1) n)) (map x (range_with_len (k + 1) n))) (wide (f k))
    ∙ ap (λ m. x k + 2 ^ f k * m) (place_of-by f x (k + 1) n)

-- coordinates of a small box and those of a large one: on each axis the first and a multiple of a step
pub record AreScaled (f g first step y x : ℕ → ℕ) : Type 0 where
  pub small : (a : ℕ) → y a < 2 ^ f a
  pub large : (a : ℕ) → x a < 2 ^ g a
  pub some : (a : ℕ) → 1 ≤ step a
  pub is : (a : ℕ) → x a ≡ first a + y a * step a

-- what stands at one place of the small box stands at one place of the large one
pub same_places : (f g first step y y' x x' : ℕ → ℕ) → AreScaled f g first step y x → AreScaled f g first step y' x' → (k n : ℕ) → place_by f y k n ≡ place_by f y' k n → place_by g x k n ≡ place_by g x' k n
same_places f g first step y y' x x' s s' k zero same = refl
same_places f g first step y y' x x' s s' k (suc n) same =
    let parts : (place_by f y (k + 1) n ≡ place_by f y' (k + 1) n) × (y k ≡ y' k) =
    same_from_place (place_by f y (k + 1) n) (y k) (place_by f y' (k + 1) n) (y' k) (2 ^ f k) (s.small k) (s'.small k) (omega arith) in
    let here : x k ≡ x' k = s.is k ∙ ap (λ m. first k + m * step k) parts.1 ∙ sym (s'.is k) in
    let rest : place_by g x (k + 1) n ≡ place_by g x' (k + 1) n = same_places f g first step y y' x x' s s' (k + 1) n parts.0 in
    ap (λ m. m + 2 ^ g k * place_by g x (k + 1) n) here ∙ ap (λ m. x' k + 2 ^ g k * m) rest

-- and a later place stays later
pub rising_places : (f g first step y y' x x' : ℕ → ℕ) → AreScaled f g first step y x → AreScaled f g first step y' x' → (k n : ℕ) → place_by f y k n < place_by f y' k n → place_by g x k n < place_by g x' k n
rising_places f g first step y y' x x' s s' k zero less = absurd (omega arith)
rising_places f g first step y y' x x' s s' k (suc n) less =
    let p : ℕ = place_by f y (k + 1) n in
    let p' : ℕ = place_by f y' (k + 1) n in
    let q : ℕ = place_by g x (k + 1) n in
    let q' : ℕ = place_by g x' (k + 1) n in
    ⊎_elim
    (λ (same : p ≡ p').
    let products : 2 ^ f k * p ≡ 2 ^ f k * p' = ap (λ m. 2 ^ f k * m) same in
    let lower : suc (y k) ≤ y' k = omega (arith, products) in
    let scaled : suc (y k) * step k ≤ y' k * step k = mul-le-mul_right (step k) lower in
    let here : x k < x' k = omega (arith, s.is k, s'.is k, s.some k) in
    let rest : q ≡ q' = same_places f g first step y y' x x' s s' (k + 1) n same in
    omega (arith, ap (λ m. 2 ^ g k * m) rest))
    (⊎_elim
    (λ (lower : p < p').
    let rest : q < q' = rising_places f g first step y y' x x' s s' (k + 1) n lower in
    let next : 2 ^ g k * suc q ≤ 2 ^ g k * q' = mul-le-mul_left (2 ^ g k) rest in
    omega (arith, s.large k))
    (λ (higher : p' < p).
    let next : 2 ^ f k * suc p' ≤ 2 ^ f k * p = mul-le-mul_left (2 ^ f k) higher in
    absurd (omega (arith, s'.small k))))
    (cases_order p p')
