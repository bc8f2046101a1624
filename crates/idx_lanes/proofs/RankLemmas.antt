-- The place of a point in a row-major volume, as a sum over the axes.
use Rattle.std.proofs.Common.{◌≡◌, ℕ, zero, suc, ◌+◌, ◌-◌, ◌*◌, ◌<◌, ◌≤◌, List, [], ◌∷◌, length, get_or, refl, sym, ap, ◌∙◌, arith}
use Rattle.std.proofs.Math.Nat.{mul_assoc, mul-le-mul_left}
use Rattle.idx_geom.specs.Region.{LiesIn, extent, place_of}
use Rattle.idx_geom.proofs.PointsLemmas.{size}
use Rattle.idx_lanes.specs.declared.block_part.BlockPart.{BlockPart}
use Rattle.idx_lanes.specs.Lanes.{box_on, sum_to, weight_on}
use Rattle.idx_lanes.proofs.ZByLemmas.{sum_to-same}

-- how many bytes neighbouring coordinates of an axis lie apart
abbrev pub weight : ℕ → List (ℕ × ℕ) → ℕ → ℕ
weight w box zero = w
weight w box (suc axis) = weight w box axis * extent (get_or box axis (0, 0))

pub weight-part : (part : BlockPart) (axis : ℕ) → weight_on part axis ≡ weight part.size part.region axis
weight-part part zero = refl
weight-part part (suc axis) = ap (λ n. n * extent (box_on part axis)) (weight-part part axis)

weight-cons : (w : ℕ) (b : ℕ × ℕ) (bs : List (ℕ × ℕ)) (axis : ℕ) → weight w (b ∷ bs) (suc axis) ≡ weight (w * extent b) bs axis
weight-cons w b bs zero = refl
weight-cons w b bs (suc axis) = ap (λ n. n * extent (get_or bs axis (0, 0))) (weight-cons w b bs axis)

-- a sum from its first term
sum_to-first : (f : ℕ → ℕ) (n : ℕ) → sum_to f (suc n) ≡ f 0 + sum_to (λ a. f (suc a)) n
sum_to-first f zero = omega arith
sum_to-first f (suc n) = omega (arith, sum_to-first f n)

-- the place, in bytes
pub place_of-sum : (w : ℕ) (box : List (ℕ × ℕ)) (p : List ℕ) → LiesIn box p → w * place_of box p ≡ sum_to (λ a. (get_or p a 0 - (get_or box a (0, 0)).0) * weight w box a) (length box)
place_of-sum w [] [] inside = omega arith
place_of-sum w [] (x ∷ xs) inside = absurd inside
place_of-sum w (b ∷ bs) [] inside = absurd inside
place_of-sum w (b ∷ bs) (x ∷ xs) inside =
    let term : ℕ → ℕ = λ a. (get_or (x ∷ xs) a 0 - (get_or (b ∷ bs) a (0, 0)).0) * weight w (b ∷ bs) a in
    let rest : sum_to (λ a. term (suc a)) (length bs) ≡ sum_to (λ a. (get_or xs a 0 - (get_or bs a (0, 0)).0) * weight (w * extent b) bs a) (length bs) =
    sum_to-same (λ a. term (suc a)) (λ a. (get_or xs a 0 - (get_or bs a (0, 0)).0) * weight (w * extent b) bs a) (length bs)
    (λ a h. ap (λ n. (get_or xs a 0 - (get_or bs a (0, 0)).0) * n) (weight-cons w b bs a)) in
    two_parts w (x - b.0) (extent b) (place_of bs xs)
    ∙ ap (λ n. (x - b.0) * w + n) (place_of-sum (w * extent b) bs xs inside.2 ∙ sym rest)
    ∙ sym (sum_to-first term (length bs))
  where
    two_parts : (w a e s : ℕ) → w * (a + e * s) ≡ a * w + w * e * s
    two_parts w a e s = grind arith

-- behind the last axis the weight is that of the whole volume
pub weight-all : (w : ℕ) (box : List (ℕ × ℕ)) → weight w box (length box) ≡ w * size box
weight-all w [] = omega arith
weight-all w (b ∷ bs) = weight-cons w b bs (length bs) ∙ weight-all (w * extent b) bs ∙ mul_assoc w (extent b) (size bs)

-- weights rise
pub weight-up : (w : ℕ) (box : List (ℕ × ℕ)) (i d j : ℕ) → j ≡ i + d → ((a : ℕ) → a < j → 1 ≤ extent (get_or box a (0, 0))) → weight w box i ≤ weight w box j
weight-up w box i zero j is some = let same : i ≡ j = omega arith in omega (arith, ap (weight w box) same)
weight-up w box i (suc d) j is some =
    let before : ℕ = i + d in
    let last : j ≡ suc before = omega (arith, is) in
    let up : weight w box i ≤ weight w box before = weight-up w box i d before refl (λ a h. some a (omega (arith, last, h))) in
    let wide : 1 ≤ extent (get_or box before (0, 0)) = some before (omega (arith, last)) in
    omega (arith, up, ap (weight w box) last, mul-le-mul_left (weight w box before) wide)
