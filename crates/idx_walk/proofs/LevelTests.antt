-- The levels of points as tests of their coordinates.
use Rattle.std.proofs.Common.{◌≡◌, ℕ, zero, suc, ◌+◌, ◌-◌, ◌*◌, ◌/◌, ◌%◌, ◌^◌, ◌<◌, ◌≤◌, true, ◌&&◌, eqb, leb, ltb, List, [], ◌∷◌, length, drop, take, get_or, map, refl, sym, ap, ◌∙◌, arith, take-append-drop}
use Rattle.std.specs.Prelude.{not}
use Rattle.std.proofs.lemmas.Bool.{eqb-true, eq-eqb, leb-true, le-leb, and_parts}
use Rattle.std.proofs.lemmas.Bool.Decides.{same_from_decides, nat_tests}
use Rattle.std.specs.List.{range_with_len}
use Rattle.std.proofs.lemmas.List.FromFn.{get_or-map-range_with_len}
use Rattle.std.proofs.lemmas.List.{drop-drop}
use Rattle.std.proofs.lemmas.Nat.{pow_pos, pow-add}
use Rattle.std.proofs.Math.Bool.{and_comm}
use Rattle.std.proofs.Math.Nat.{mul-div_cancel_left}
use Rattle.idx_lanes.specs.Axis.{on}
use Rattle.idx_hz.specs.Mask.{NamesAxes, bit_count}
use Rattle.idx_hz.specs.Address.{level}
use Rattle.idx_hz.specs.Answer.{has_level}
use Rattle.idx_hz.specs.Stride.{stride}
use Rattle.idx_hz.proofs.LevelLemmas.{level-from_on_strides, on_strides-from_level}
use Rattle.idx_hz.proofs.ZLemmas.{bit_count-append}

-- ---- a point on strides

pub on-true : (s : ℕ → ℕ) (k : ℕ) (p : List ℕ) → on s k p ≡ true → (a : ℕ) → a < length p → get_or p a 0 % s (k + a) ≡ 0
on-true s k [] e a within = absurd (omega arith)
on-true s k (x ∷ xs) e zero within =
    let first : k + 0 ≡ k = omega arith in
    ap (λ n. x % s n) first ∙ eqb-true (x % s k) 0 (and_parts (on s (k + 1) xs) (eqb (x % s k) 0) e).1
on-true s k (x ∷ xs) e (suc a) within =
    let next : k + suc a ≡ k + 1 + a = omega arith in
    ap (λ n. get_or xs a 0 % s n) next ∙ on-true s (k + 1) xs (and_parts (on s (k + 1) xs) (eqb (x % s k) 0) e).0 a (omega arith)

pub true-on : (s : ℕ → ℕ) (k : ℕ) (p : List ℕ) → ((a : ℕ) → a < length p → get_or p a 0 % s (k + a) ≡ 0) → on s k p ≡ true
true-on s k [] each = refl
true-on s k (x ∷ xs) each =
    let first : k ≡ k + 0 = omega arith in
    let here : eqb (x % s k) 0 ≡ true = eq-eqb (x % s k) 0 (ap (λ n. x % s n) first ∙ each 0 (omega arith)) in
    let rest : on s (k + 1) xs ≡ true = true-on s (k + 1) xs (λ a within.
    let next : k + 1 + a ≡ k + suc a = omega arith in
    ap (λ n. get_or xs a 0 % s n) next ∙ each (suc a) (omega arith)) in
    ap (λ b. b && eqb (x % s k) 0) rest ∙ here

-- strides that are equal on each axis have the same points
pub on-agree : (s t : ℕ → ℕ) → ((a : ℕ) → s a ≡ t a) → (k : ℕ) (p : List ℕ) → on s k p ≡ on t k p
on-agree s t same k [] = refl
on-agree s t same k (x ∷ xs) = λ i. on-agree s t same (k + 1) xs i && eqb (x % same k i) 0

-- ---- levels

-- the points of level at most h are those on its strides
pub level-test : (mask p : List ℕ) (h : ℕ) → NamesAxes mask (length p) → leb (level mask p) h ≡ on (stride mask h) 0 p
level-test mask p h named =
    same_from_decides (leb (level mask p) h) (on (stride mask h) 0 p)
    (leb-true (level mask p) h, le-leb (level mask p) h) (
      (λ t. level-from_on_strides mask p h named (λ a within.
          let first : a ≡ 0 + a = omega arith in
          ap (λ n. get_or p a 0 % stride mask h n) first ∙ on-true (stride mask h) 0 p t a within)),
      (λ low. true-on (stride mask h) 0 p (λ a within.
          let first : 0 + a ≡ a = omega arith in
          ap (λ n. get_or p a 0 % stride mask h n) first ∙ on_strides-from_level mask p h low a within)),
    )

-- a level is from lo on where lo is 0 or the level is not at most lo - 1
from-test : (lo n : ℕ) → leb lo n ≡ not (ltb 0 lo && leb n (lo - 1))
from-test lo n = grind (arith, nat_tests)

-- the points of the levels lo to hi are those on the strides of hi, without those on the strides of lo - 1
pub has_level-on : (mask p : List ℕ) (lo hi : ℕ) → NamesAxes mask (length p) → has_level mask lo hi p ≡ (on (stride mask hi) 0 p && not (ltb 0 lo && on (stride mask (lo - 1)) 0 p))
has_level-on mask p lo hi named =
    ap (λ b. b && leb (level mask p) hi) (from-test lo (level mask p))
    ∙ and_comm (not (ltb 0 lo && leb (level mask p) (lo - 1))) (leb (level mask p) hi)
    ∙ (λ i. level-test mask p hi named i && not (ltb 0 lo && level-test mask p (lo - 1) named i))

-- ---- strides of two levels

-- a coarser level has at least as many digits behind it
bit_count-drop : (axis i j : ℕ) (mask : List ℕ) → i ≤ j → bit_count axis (drop j mask) ≤ bit_count axis (drop i mask)
bit_count-drop axis i j mask le =
    let split : i + (j - i) ≡ j = omega arith in
    let rest : drop (j - i) (drop i mask) ≡ drop j mask = drop-drop (j - i) i mask ∙ ap (λ n. drop n mask) split in
    let both : bit_count axis (take (j - i) (drop i mask)) + bit_count axis (drop (j - i) (drop i mask)) ≡ bit_count axis (drop i mask) =
    sym (bit_count-append axis (take (j - i) (drop i mask)) (drop (j - i) (drop i mask))) ∙ ap (bit_count axis) (take-append-drop (j - i) (drop i mask)) in
    omega (arith, both, ap (bit_count axis) rest)

-- how many strides of level hi the stride of level lo - 1 has
abbrev pub ratio_of : List ℕ → ℕ → ℕ → ℕ → ℕ
ratio_of mask lo hi axis = stride mask (lo - 1) axis / stride mask hi axis

-- the stride of a coarser level is a multiple of that of a finer one
ratio-power : (mask : List ℕ) (lo hi axis : ℕ) → lo ≤ hi → ratio_of mask lo hi axis ≡ 2 ^ (bit_count axis (drop (lo - 1) mask) - bit_count axis (drop hi mask))
ratio-power mask lo hi axis le =
    let i : ℕ = bit_count axis (drop (lo - 1) mask) in
    let j : ℕ = bit_count axis (drop hi mask) in
    let fewer : j ≤ i = bit_count-drop axis (lo - 1) hi mask (omega arith) in
    let split : i ≡ j + (i - j) = omega arith in
    ap (λ n. 2 ^ n / 2 ^ j) split ∙ ap (λ n. n / 2 ^ j) (pow-add 2 j (i - j)) ∙ mul-div_cancel_left (2 ^ (i - j)) (pow_pos j)

pub ratio_pos : (mask : List ℕ) (lo hi axis : ℕ) → lo ≤ hi → 0 < ratio_of mask lo hi axis
ratio_pos mask lo hi axis le =
    omega (arith, ratio-power mask lo hi axis le, pow_pos (bit_count axis (drop (lo - 1) mask) - bit_count axis (drop hi mask)))

pub stride-ratio : (mask : List ℕ) (lo hi axis : ℕ) → lo ≤ hi → stride mask hi axis * ratio_of mask lo hi axis ≡ stride mask (lo - 1) axis
stride-ratio mask lo hi axis le =
    let i : ℕ = bit_count axis (drop (lo - 1) mask) in
    let j : ℕ = bit_count axis (drop hi mask) in
    let fewer : j ≤ i = bit_count-drop axis (lo - 1) hi mask (omega arith) in
    let split : j + (i - j) ≡ i = omega arith in
    ap (λ n. 2 ^ j * n) (ratio-power mask lo hi axis le) ∙ sym (pow-add 2 j (i - j)) ∙ ap (λ n. 2 ^ n) split

-- the stride in a list of strides
pub strides-at : (mask : List ℕ) (h axes k : ℕ) (strides : List ℕ) → strides ≡ map (λ axis. stride mask h axis) (range_with_len 0 axes) → k < axes → get_or strides k 0 ≡ stride mask h k
strides-at mask h axes k strides are within = ap (λ t. get_or t k 0) are ∙ get_or-map-range_with_len (λ axis. stride mask h axis) 0 axes k k 0 within (omega arith)
