-- The grids of the levels: their points are exactly those of the levels.
use Rattle.std.proofs.Common.{◌≡◌, ◌≢◌, ℕ, zero, suc, ◌+◌, ◌-◌, ◌*◌, ◌/◌, ◌%◌, ◌^◌, ◌<◌, ◌≤◌, ◌↔◌, List, [], ◌∷◌, length, map, take, drop, replicate, set, get_or, All, refl, sym, ap, ◌∙◌, ⊎_elim, subst, arith}
use Rattle.std.specs.Prelude.{EachIndex, slice_index}
use Rattle.std.specs.List.{range_with_len}
use Rattle.std.proofs.Math.Nat.{mul-mod_left, mod-add-div', pow-suc, mod-eq_of_lt, zero-mod}
use Rattle.std.proofs.Math.Pow.{pow_mono}
use Rattle.std.proofs.lemmas.Bool.{cases_eq, cases_lt, eq-eqb, ne_eqb}
use Rattle.std.proofs.lemmas.Nat.{div-mul-add, pow_pos}
use Rattle.std.proofs.lemmas.List.{ext_get_or, length-take-le, get_or-take, get_or-replicate, length-replicate, length-set, get_or-set_same, get_or-set_other, length-drop}
use Rattle.std.proofs.lemmas.List.Elements.{All-get_or, All-from_get_or}
use Rattle.std.proofs.lemmas.List.FromFn.{length-map-range_with_len, get_or-map-range_with_len}
use Rattle.idx_hz.specs.Mask.{NamesAxes, HasAddress, bit_count}
use Rattle.idx_hz.specs.Address.{level}
use Rattle.idx_hz.specs.Stride.{stride}
use Rattle.idx_hz.proofs.LevelLemmas.{level_iff_on_strides, level_iff_odd_multiple, stride_of_digit, stride_of_other}
use Rattle.idx_hz.proofs.MaskLemmas.{bit_count-le}
use Rattle.idx_grid.specs.Grid.{IsOnAxis, IsOnAxes}
use Rattle.idx_grid.specs.LevelGrid.{strides, first_on, first_of}

-- ---- axis by axis

pub IsOnAxes-from_axes : (firsts steps p : List ℕ) → length firsts ≡ length p → length steps ≡ length p → ((a : ℕ) → a < length p → IsOnAxis (get_or firsts a 0) (get_or steps a 0) (get_or p a 0)) → IsOnAxes firsts steps p
IsOnAxes-from_axes [] [] [] f s each = tt
IsOnAxes-from_axes [] [] (x ∷ xs) f s each = absurd (omega arith)
IsOnAxes-from_axes [] (step ∷ steps) [] f s each = absurd (omega arith)
IsOnAxes-from_axes [] (step ∷ steps) (x ∷ xs) f s each = absurd (omega arith)
IsOnAxes-from_axes (first ∷ firsts) [] [] f s each = absurd (omega arith)
IsOnAxes-from_axes (first ∷ firsts) [] (x ∷ xs) f s each = absurd (omega arith)
IsOnAxes-from_axes (first ∷ firsts) (step ∷ steps) [] f s each = absurd (omega arith)
IsOnAxes-from_axes (first ∷ firsts) (step ∷ steps) (x ∷ xs) f s each =
    (each 0 (omega arith), IsOnAxes-from_axes firsts steps xs (omega arith) (omega arith) (λ a within. each (suc a) (omega arith)))

pub IsOnAxes-at_axis : (firsts steps p : List ℕ) → IsOnAxes firsts steps p → (a : ℕ) → a < length p → IsOnAxis (get_or firsts a 0) (get_or steps a 0) (get_or p a 0)
IsOnAxes-at_axis [] [] [] on a within = absurd (omega arith)
IsOnAxes-at_axis [] [] (x ∷ xs) on a within = absurd on
IsOnAxes-at_axis [] (step ∷ steps) p on a within = absurd on
IsOnAxes-at_axis (first ∷ firsts) [] p on a within = absurd on
IsOnAxes-at_axis (first ∷ firsts) (step ∷ steps) [] on a within = absurd on
IsOnAxes-at_axis (first ∷ firsts) (step ∷ steps) (x ∷ xs) on zero within = on.0
IsOnAxes-at_axis (first ∷ firsts) (step ∷ steps) (x ∷ xs) on (suc a) within = IsOnAxes-at_axis firsts steps xs on.1 a (omega arith)

-- ---- one coordinate

-- the multiples of a step
pub multiple_iff : (step x : ℕ) → IsOnAxis 0 step x ↔ (x % step ≡ 0)
multiple_iff step x = (
  λ on. let is : x ≡ on.0 * step = omega (arith, on.1) in ap (λ n. n % step) is ∙ mul-mod_left on.0 step,
  λ rest. (x / step, omega (arith, mod-add-div' x step)),
)

-- the odd multiples of half a step
pub odd_multiple_iff : (half step x : ℕ) → 0 < half → step ≡ half * 2 → IsOnAxis half step x ↔ ((x % half ≡ 0) × (x / half % 2 ≡ 1))
odd_multiple_iff half step x some twice = (
  λ on.
      let is : x ≡ (on.0 * 2 + 1) * half + 0 = omega (arith, on.1, ap (λ n. on.0 * n) twice) in
      let quotient : x / half ≡ on.0 * 2 + 1 = ap (λ n. n / half) is ∙ div-mul-add (on.0 * 2 + 1) half 0 some in
      let whole : x ≡ (on.0 * 2 + 1) * half = omega arith in
      (ap (λ n. n % half) whole ∙ mul-mod_left (on.0 * 2 + 1) half, omega arith),
  λ both.
      let k : ℕ = x / half / 2 in
      let odd : x / half ≡ k * 2 + 1 = omega (arith, both.1) in
      (k, omega (arith, mod-add-div' x half, both.0, ap (λ n. n * half) odd, ap (λ n. k * n) twice)),
)

-- ---- the strides of a level

pub length-strides : (mask : List ℕ) (h axes : ℕ) → length (strides mask h axes) ≡ axes
length-strides mask h axes = length-map-range_with_len (λ axis. stride mask h axis) 0 axes

pub get_or-strides : (mask : List ℕ) (h axes a : ℕ) → a < axes → get_or (strides mask h axes) a 0 ≡ stride mask h a
get_or-strides mask h axes a within = get_or-map-range_with_len (λ axis. stride mask h axis) 0 axes a a 0 within (omega arith)

pub length-first_of : (mask : List ℕ) (h axes : ℕ) → length (first_of mask h axes) ≡ axes
length-first_of mask h axes = length-map-range_with_len (λ axis. first_on mask h axis) 0 axes

pub get_or-first_of : (mask : List ℕ) (h axes a : ℕ) → a < axes → get_or (first_of mask h axes) a 0 ≡ first_on mask h a
get_or-first_of mask h axes a within = get_or-map-range_with_len (λ axis. first_on mask h axis) 0 axes a a 0 within (omega arith)

pub first_on-zero : (mask : List ℕ) (h a : ℕ) → h ≡ 0 → first_on mask h a ≡ 0
first_on-zero mask h a none = rw (eq-eqb h 0 none) refl

pub first_on-digit : (mask : List ℕ) (h a : ℕ) → 1 ≤ h → get_or mask (h - 1) 0 ≡ a → first_on mask h a ≡ stride mask h a
first_on-digit mask h a some same = let from : h ≡ 0 → ⊥ = λ none. omega arith in rw (ne_eqb h 0 from, eq-eqb (get_or mask (h - 1) 0) a same) refl

pub first_on-other : (mask : List ℕ) (h a : ℕ) → get_or mask (h - 1) 0 ≢ a → first_on mask h a ≡ 0
first_on-other mask h a other = ⊎_elim
    (λ (none : h ≡ 0). first_on-zero mask h a none)
    (λ (some : h ≡ 0 → ⊥). rw (ne_eqb h 0 some, ne_eqb (get_or mask (h - 1) 0) a other) refl)
    (cases_eq h 0)

-- the stride of the level before is twice as long on the digit's axis, and as long on each other axis
pub stride-twice : (mask : List ℕ) (h a : ℕ) → 1 ≤ h → h ≤ length mask → get_or mask (h - 1) 0 ≡ a → stride mask (h - 1) a ≡ stride mask h a * 2
stride-twice mask h a from to same =
    let next : suc (h - 1) ≡ h = omega arith in
    ap (λ n. 2 ^ n) (stride_of_digit mask (h - 1) a (omega arith) same) ∙ pow-suc 2 (bit_count a (drop (suc (h - 1)) mask)) ∙ ap (λ n. stride mask n a * 2) next

pub stride-same : (mask : List ℕ) (h a : ℕ) → 1 ≤ h → h ≤ length mask → get_or mask (h - 1) 0 ≢ a → stride mask (h - 1) a ≡ stride mask h a
stride-same mask h a from to other =
    let next : suc (h - 1) ≡ h = omega arith in
    ap (λ n. 2 ^ n) (stride_of_other mask (h - 1) a (omega arith) other) ∙ ap (λ n. stride mask n a) next

-- a stride is at most 2^40
pub stride-le : (mask : List ℕ) (h a : ℕ) → length mask ≤ 40 → stride mask h a ≤ 2 ^ 40
stride-le mask h a few =
    let bits : bit_count a (drop h mask) ≤ 40 = omega (arith, bit_count-le a (drop h mask), length-drop h mask) in
    pow_mono bits

-- a stride is positive
pub positive-strides : (mask steps : List ℕ) (h axes : ℕ) → steps ≡ strides mask h axes → All (λ step. 1 ≤ step) steps
positive-strides mask steps h axes is =
    subst (All (λ step. 1 ≤ step)) (sym is)
    (All-from_get_or (λ step. 1 ≤ step) (strides mask h axes) 0
    (λ a within. omega (arith, get_or-strides mask h axes a (omega (arith, length-strides mask h axes)), pow_pos (bit_count a (drop h mask)))))

-- ---- level 0

pub origin_from_level : (mask p : List ℕ) → HasAddress mask p → level mask p ≡ 0 → p ≡ replicate (length p) 0
origin_from_level mask p has here =
    ext_get_or 0 p (replicate (length p) 0) (sym (length-replicate (length p) 0))
    (λ a within.
    let multiple : get_or p a 0 % 2 ^ bit_count a mask ≡ 0 = (level_iff_on_strides mask p 0 has.named).0 (omega arith) a within in
    sym (mod-eq_of_lt (has.below a within)) ∙ multiple ∙ sym (get_or-replicate (length p) a 0 0 within))

pub level_from_origin : (mask p : List ℕ) → HasAddress mask p → p ≡ replicate (length p) 0 → level mask p ≡ 0
level_from_origin mask p has origin =
    let low : level mask p ≤ 0 = (level_iff_on_strides mask p 0 has.named).1
    (λ a within. let none : get_or p a 0 ≡ 0 = ap (λ t. get_or t a 0) origin ∙ get_or-replicate (length p) a 0 0 within in rw none (zero-mod (2 ^ bit_count a mask))) in
    omega arith

-- ---- the points of the grids

-- the grid of the levels up to h has their points
pub on_grid_up_to_iff : (mask p firsts steps : List ℕ) (h : ℕ) → NamesAxes mask (length p) → firsts ≡ replicate (length p) 0 → steps ≡ strides mask h (length p) → (level mask p ≤ h) ↔ IsOnAxes firsts steps p
on_grid_up_to_iff mask p firsts steps h named first step =
    let iff = level_iff_on_strides mask p h named in
    let begin : (a : ℕ) → a < length p → get_or firsts a 0 ≡ 0 = λ a within. ap (λ t. get_or t a 0) first ∙ get_or-replicate (length p) a 0 0 within in
    let apart : (a : ℕ) → a < length p → get_or steps a 0 ≡ stride mask h a = λ a within. ap (λ t. get_or t a 0) step ∙ get_or-strides mask h (length p) a within in (
      λ low. IsOnAxes-from_axes firsts steps p (ap length first ∙ length-replicate (length p) 0) (ap length step ∙ length-strides mask h (length p))
          (λ a within. subst (λ t. IsOnAxis t (get_or steps a 0) (get_or p a 0)) (sym (begin a within))
          (subst (λ t. IsOnAxis 0 t (get_or p a 0)) (sym (apart a within)) ((multiple_iff (stride mask h a) (get_or p a 0)).1 (iff.0 low a within)))),
      λ on. iff.1 (λ a within.
          (multiple_iff (stride mask h a) (get_or p a 0)).0
          (subst (λ t. IsOnAxis 0 t (get_or p a 0)) (apart a within) (subst (λ t. IsOnAxis t (get_or steps a 0) (get_or p a 0)) (begin a within) (IsOnAxes-at_axis firsts steps p on a within)))),
    )

-- one axis of the grid of a level
IsOnAxis-of_level : (mask : List ℕ) (h a x : ℕ) → 1 ≤ h → h ≤ length mask → x % stride mask h a ≡ 0 → (get_or mask (h - 1) 0 ≡ a → x / stride mask h a % 2 ≡ 1) → IsOnAxis (first_on mask h a) (stride mask (h - 1) a) x
IsOnAxis-of_level mask h a x from to multiple odd = ⊎_elim
    (λ (same : get_or mask (h - 1) 0 ≡ a). subst (λ t. IsOnAxis t (stride mask (h - 1) a) x) (sym (first_on-digit mask h a from same))
    ((odd_multiple_iff (stride mask h a) (stride mask (h - 1) a) x (pow_pos (bit_count a (drop h mask))) (stride-twice mask h a from to same)).1 (multiple, odd same)))
    (λ (other : get_or mask (h - 1) 0 ≢ a). subst (λ t. IsOnAxis t (stride mask (h - 1) a) x) (sym (first_on-other mask h a other))
    (subst (λ t. IsOnAxis 0 t x) (sym (stride-same mask h a from to other)) ((multiple_iff (stride mask h a) x).1 multiple)))
    (cases_eq (get_or mask (h - 1) 0) a)

on_digit : (mask : List ℕ) (h a x : ℕ) → 1 ≤ h → h ≤ length mask → get_or mask (h - 1) 0 ≡ a → IsOnAxis (first_on mask h a) (stride mask (h - 1) a) x → (x % stride mask h a ≡ 0) × (x / stride mask h a % 2 ≡ 1)
on_digit mask h a x from to same on =
    (odd_multiple_iff (stride mask h a) (stride mask (h - 1) a) x (pow_pos (bit_count a (drop h mask))) (stride-twice mask h a from to same)).0
    (subst (λ t. IsOnAxis t (stride mask (h - 1) a) x) (first_on-digit mask h a from same) on)

multiple_of_level : (mask : List ℕ) (h a x : ℕ) → 1 ≤ h → h ≤ length mask → IsOnAxis (first_on mask h a) (stride mask (h - 1) a) x → x % stride mask h a ≡ 0
multiple_of_level mask h a x from to on = ⊎_elim
    (λ (same : get_or mask (h - 1) 0 ≡ a). (on_digit mask h a x from to same on).0)
    (λ (other : get_or mask (h - 1) 0 ≢ a). (multiple_iff (stride mask h a) x).0
    (subst (λ t. IsOnAxis 0 t x) (stride-same mask h a from to other) (subst (λ t. IsOnAxis t (stride mask (h - 1) a) x) (first_on-other mask h a other) on)))
    (cases_eq (get_or mask (h - 1) 0) a)

-- the grid of level h from 1 has its points
on_grid_at_iff_from_one : (mask p firsts steps : List ℕ) (h : ℕ) → NamesAxes mask (length p) → 1 ≤ h → h ≤ length mask → firsts ≡ first_of mask h (length p) → steps ≡ strides mask (h - 1) (length p) → (level mask p ≡ h) ↔ IsOnAxes firsts steps p
on_grid_at_iff_from_one mask p firsts steps h named from to first step =
    let iff = level_iff_odd_multiple mask p h named from to in
    let digit : get_or mask (h - 1) 0 < length p = All-get_or (λ d. d < length p) mask (h - 1) 0 (omega arith) named in
    let begin : (a : ℕ) → a < length p → get_or firsts a 0 ≡ first_on mask h a = λ a within. ap (λ t. get_or t a 0) first ∙ get_or-first_of mask h (length p) a within in
    let apart : (a : ℕ) → a < length p → get_or steps a 0 ≡ stride mask (h - 1) a = λ a within. ap (λ t. get_or t a 0) step ∙ get_or-strides mask (h - 1) (length p) a within in
    let at : IsOnAxes firsts steps p → (a : ℕ) → a < length p → IsOnAxis (first_on mask h a) (stride mask (h - 1) a) (get_or p a 0) = λ on a within.
    subst (λ t. IsOnAxis (first_on mask h a) t (get_or p a 0)) (apart a within) (subst (λ t. IsOnAxis t (get_or steps a 0) (get_or p a 0)) (begin a within) (IsOnAxes-at_axis firsts steps p on a within)) in (
      λ here. IsOnAxes-from_axes firsts steps p (ap length first ∙ length-first_of mask h (length p)) (ap length step ∙ length-strides mask (h - 1) (length p))
          (λ a within. subst (λ t. IsOnAxis t (get_or steps a 0) (get_or p a 0)) (sym (begin a within))
          (subst (λ t. IsOnAxis (first_on mask h a) t (get_or p a 0)) (sym (apart a within))
          (IsOnAxis-of_level mask h a (get_or p a 0) from to ((iff.0 here).0 a within)
          (λ same. subst (λ d. get_or p d 0 / stride mask h d % 2 ≡ 1) same (iff.0 here).1)))),
      λ on. iff.1 (
        λ a within. multiple_of_level mask h a (get_or p a 0) from to (at on a within),
        (on_digit mask h (get_or mask (h - 1) 0) (get_or p (get_or mask (h - 1) 0) 0) from to refl (at on (get_or mask (h - 1) 0) digit)).1,
      ),
    )

-- so has the grid of any level
pub on_grid_at_iff : (mask p firsts steps : List ℕ) (h : ℕ) → NamesAxes mask (length p) → h ≤ length mask → firsts ≡ first_of mask h (length p) → steps ≡ strides mask (h - 1) (length p) → (level mask p ≡ h) ↔ IsOnAxes firsts steps p
on_grid_at_iff mask p firsts steps h named to first step = ⊎_elim
    (λ (none : h < 1).
    let origin : h ≡ 0 = omega arith in
    let before : h - 1 ≡ h = omega arith in
    let begin : firsts ≡ replicate (length p) 0 = first ∙ ext_get_or 0 (first_of mask h (length p)) (replicate (length p) 0)
    (length-first_of mask h (length p) ∙ sym (length-replicate (length p) 0))
    (λ a within.
    let inside : a < length p = omega (arith, length-first_of mask h (length p)) in
    get_or-first_of mask h (length p) a inside ∙ first_on-zero mask h a origin ∙ sym (get_or-replicate (length p) a 0 0 inside)) in
    let iff = on_grid_up_to_iff mask p firsts steps h named begin (step ∙ ap (λ n. strides mask n (length p)) before) in
    (λ here. iff.0 (omega arith), λ on. omega (arith, iff.1 on)))
    (λ (some : 1 ≤ h). on_grid_at_iff_from_one mask p firsts steps h named some to first step)
    (cases_lt h 1)

-- ---- arrays of coordinates

-- the first elements of an array that is known
pub take_known : (xs : List ℕ) (f : ℕ → ℕ) (n : ℕ) → n ≤ length xs → EachIndex xs (λ a. slice_index xs a ≡ f a) → take n xs ≡ map f (range_with_len 0 n)
take_known xs f n room known =
    let size : length (take n xs) ≡ n = length-take-le n xs room in
    ext_get_or 0 (take n xs) (map f (range_with_len 0 n)) (size ∙ sym (length-map-range_with_len f 0 n))
    (λ a within.
    let inside : a < n = omega arith in
    get_or-take n xs a 0 inside ∙ known a (omega arith) ∙ sym (get_or-map-range_with_len f 0 n a a 0 inside (omega arith)))

-- the places from one on are read: each element of the array is its axis's stride there
pub record AreStridesFrom (mask array : List ℕ) (place : ℕ) : Type 0 where
  pub room : length array ≡ 5
  pub value : (a : ℕ) → a < 5 → get_or array a 0 ≡ stride mask place a

pub strides_more : (mask array : List ℕ) (next place axis : ℕ) → next ≡ suc place → place < length mask → axis ≡ get_or mask place 0 → axis < 5 → AreStridesFrom mask array next → AreStridesFrom mask (set array axis (get_or array axis 0 * 2)) place
strides_more mask array next place axis is within names small h = record {
  room = length-set array axis (get_or array axis 0 * 2) ∙ h.room;
  value = λ a few. ⊎_elim
      (λ (same : axis ≡ a).
      let room : axis < length array = omega (arith, h.room) in
      let twice : stride mask place a ≡ stride mask (suc place) a * 2 = ap (λ n. 2 ^ n) (stride_of_digit mask place a within (sym names ∙ same)) ∙ pow-suc 2 (bit_count a (drop (suc place) mask)) in
      let old : get_or array axis 0 ≡ stride mask (suc place) a = h.value axis small ∙ ap (stride mask next) same ∙ ap (λ n. stride mask n a) is in
      ap (λ b. get_or (set array axis (get_or array axis 0 * 2)) b 0) (sym same) ∙ get_or-set_same array axis (get_or array axis 0 * 2) 0 room ∙ omega arith)
      (λ (other : axis ≢ a).
      get_or-set_other array axis a (get_or array axis 0 * 2) 0 (λ e. other (sym e)) ∙ h.value a few ∙ ap (λ n. stride mask n a) is
      ∙ ap (λ n. 2 ^ n) (sym (stride_of_other mask place a within (λ e. other (names ∙ e)))))
      (cases_eq axis a);
}
