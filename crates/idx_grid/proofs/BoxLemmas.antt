-- The points whose Z addresses begin with the same digits fill a box.
use Rattle.std.proofs.Common.{◌≡◌, ◌≢◌, ℕ, zero, suc, ◌+◌, ◌-◌, ◌*◌, ◌/◌, ◌%◌, ◌^◌, ◌<◌, ◌≤◌, ◌↔◌, List, [], ◌∷◌, length, take, drop, get_or, refl, sym, ap, ◌∙◌, ⊎_elim, subst, arith, take-append-drop, length-drop}
use Rattle.std.specs.Prelude.{if◌then◌else◌, ◌==◌}
use Rattle.std.specs.List.{range_with_len, zip, sum_by}
use Rattle.std.proofs.Math.Nat.{mul-mod_left, mod-add-div', mod-lt, div-lt_iff_lt-mul}
use Rattle.std.proofs.Math.Pow.{pow_mono}
use Rattle.std.proofs.lemmas.Bool.{cases_eq, eq-eqb, ne_eqb}
use Rattle.std.proofs.lemmas.Nat.{div-mul-add, mul-add-lt, pow_pos, pow-add, shl_whole}
use Rattle.std.proofs.lemmas.List.{get_or-take, length-take-le}
use Rattle.std.proofs.lemmas.List.Sums.{sum_by-cons}
use Rattle.std.proofs.lemmas.Slice.Zip.{get_or-zip}
use Rattle.idx_geom.specs.Region.{LiesIn, points, extent, AreEnds}
use Rattle.idx_geom.proofs.EndsLemmas.{length-zip_ends, IsOrdered-zip}
use Rattle.idx_geom.proofs.LiesInLemmas.{IsBetween, LiesIn-from_axes, LiesIn-at_axis, length_from_LiesIn}
use Rattle.idx_geom.proofs.PointsLemmas.{size, length-points}
use Rattle.idx_hz.specs.Mask.{NamesAxes, HasAddress, bit_count}
use Rattle.idx_hz.specs.Address.{z_address}
use Rattle.idx_hz.specs.Coordinate.{coordinate_at}
use Rattle.idx_hz.specs.Stride.{stride}
use Rattle.idx_hz.proofs.LevelLemmas.{level-from_multiple, on_strides-from_level}
use Rattle.idx_hz.proofs.PrefixLemmas.{prefix_iff_strides}
use Rattle.idx_hz.proofs.ZLemmas.{bit_count-append, coordinate_at-lt, z_address-lt}
use Rattle.idx_grid.specs.Block.{HasPrefix}

-- ---- one axis

-- what lies between a multiple of a step and the next one has its quotient
pub between_iff : (step lo x : ℕ) → 0 < step → lo % step ≡ 0 → ((lo ≤ x) × (x ≤ lo + step - 1)) ↔ (x / step ≡ lo / step)
between_iff step lo x some whole =
    let parts : lo ≡ lo / step * step = omega (arith, mod-add-div' lo step) in (
      λ within.
          let split : x ≡ lo / step * step + (x - lo) = omega (arith, within.0) in
          ap (λ n. n / step) split ∙ div-mul-add (lo / step) step (x - lo) (omega (arith, within.0, within.1)),
      λ same.
          let front : x / step * step ≡ lo = ap (λ n. n * step) same ∙ sym parts in
          let below : x % step < step = mod-lt x some in
          (omega (arith, mod-add-div' x step), omega (arith, mod-add-div' x step)),
    )

-- a coordinate whose quotient by a stride is below 2 to its bits in the places before is below the mask's size
pub below-from_quotient : (mask : List ℕ) (digits a x : ℕ) → x / stride mask digits a < 2 ^ bit_count a (take digits mask) → x < 2 ^ bit_count a mask
below-from_quotient mask digits a x small =
    let whole : 2 ^ bit_count a (take digits mask) * stride mask digits a ≡ 2 ^ bit_count a mask =
    sym (pow-add 2 (bit_count a (take digits mask)) (bit_count a (drop digits mask)))
    ∙ ap (λ n. 2 ^ n) (sym (bit_count-append a (take digits mask) (drop digits mask)) ∙ ap (bit_count a) (take-append-drop digits mask)) in
    let below : x < 2 ^ bit_count a (take digits mask) * stride mask digits a = (div-lt_iff_lt-mul {k = stride mask digits a} {x = x} {y = 2 ^ bit_count a (take digits mask)} (pow_pos (bit_count a (drop digits mask)))).0 small in
    omega arith

-- ---- all axes

-- the lowest Z address that begins with the digits
pub lowest_address : (total digits front : ℕ) → digits ≤ total → total ≤ 40 → front < 2 ^ digits → (front * 2 ^ (total - digits) % 2 ^ 64 ≡ front * 2 ^ (total - digits)) × (front * 2 ^ (total - digits) < 2 ^ total)
lowest_address total digits front fits few small =
    let whole : 2 ^ digits * 2 ^ (total - digits) ≡ 2 ^ total = sym (pow-add 2 digits (total - digits)) ∙ ap (λ n. 2 ^ n) (omega arith) in (
      shl_whole front digits (total - digits) 64 small (omega arith),
      omega (arith, mul-add-lt front (2 ^ (total - digits)) 0 (2 ^ digits) small (pow_pos (total - digits))),
    )

-- the lowest point of the box
pub record IsCorner (mask lo : List ℕ) (digits front : ℕ) : Type 0 where
  pub has : HasAddress mask lo
  pub fits : digits ≤ length mask
  pub small : front < 2 ^ digits
  pub address : z_address mask lo ≡ front * 2 ^ (length mask - digits)

-- it is made from the lowest address
pub IsCorner-made : (mask lo : List ℕ) (digits front len : ℕ) → len ≡ length mask → len ≤ 40 → digits ≤ length mask → front < 2 ^ digits → HasAddress mask lo → z_address mask lo ≡ front * 2 ^ (len - digits) % 2 ^ 64 → IsCorner mask lo digits front
IsCorner-made mask lo digits front len all few fits small has address = record {
  has = has;
  fits = fits;
  small = small;
  address = address ∙ (lowest_address len digits front (omega arith) few small).0 ∙ ap (λ n. front * 2 ^ (n - digits)) all;
}

-- its coordinates are multiples of the strides
pub corner_multiple : (mask lo : List ℕ) (digits front : ℕ) → IsCorner mask lo digits front → (a : ℕ) → a < length lo → get_or lo a 0 % stride mask digits a ≡ 0
corner_multiple mask lo digits front corner a within =
    let multiple : z_address mask lo % 2 ^ (length mask - digits) ≡ 0 = ap (λ n. n % 2 ^ (length mask - digits)) corner.address ∙ mul-mod_left front (2 ^ (length mask - digits)) in
    on_strides-from_level mask lo digits (level-from_multiple (length mask) (z_address mask lo) digits (z_address-lt mask lo) multiple) a within

-- the digits give its coordinates, in strides
pub corner_quotient : (mask lo : List ℕ) (digits front : ℕ) → IsCorner mask lo digits front → (a : ℕ) → a < length lo → get_or lo a 0 / stride mask digits a ≡ coordinate_at (take digits mask) a front
corner_quotient mask lo digits front corner a within =
    let width : ℕ = 2 ^ (length mask - digits) in
    let none : front * width ≡ front * width + 0 = omega arith in
    let prefix : z_address mask lo / width ≡ front = ap (λ n. n / width) (corner.address ∙ none) ∙ div-mul-add front width 0 (pow_pos (length mask - digits)) in
    (prefix_iff_strides mask lo digits front corner.has corner.fits corner.small).0 prefix a within

-- the upper ends are the last coordinates before the next multiples
abbrev pub AreUpper : List ℕ → List ℕ → List ℕ → ℕ → Type 0
AreUpper mask lo hi digits = (a : ℕ) → a < length lo → get_or hi a 0 ≡ get_or lo a 0 + stride mask digits a - 1

-- the ends of an array of them
pub AreUpper-taken : (mask lo hi upper : List ℕ) (digits axes axis : ℕ) → hi ≡ take axes upper → length lo ≡ axes → axes ≤ axis → ((a : ℕ) → a < axis → get_or upper a 0 ≡ get_or lo a 0 + stride mask digits a - 1) → AreUpper mask lo hi digits
AreUpper-taken mask lo hi upper digits axes axis is size past known a within =
    let inside : a < axes = omega arith in
    ap (λ t. get_or t a 0) is ∙ get_or-take axes upper a 0 inside ∙ known a (omega arith)

pub same_axes-taken : (lo hi upper : List ℕ) (axes : ℕ) → hi ≡ take axes upper → length lo ≡ axes → axes ≤ length upper → length lo ≡ length hi
same_axes-taken lo hi upper axes is size room = size ∙ sym (ap length is ∙ length-take-le axes upper room)

quotient-small : (mask lo : List ℕ) (digits front : ℕ) → IsCorner mask lo digits front → (a : ℕ) → a < length lo → get_or lo a 0 / stride mask digits a < 2 ^ bit_count a (take digits mask)
quotient-small mask lo digits front corner a within =
    omega (arith, corner_quotient mask lo digits front corner a within, coordinate_at-lt (take digits mask) a front)

-- they lie below the mask's size
pub upper_below : (mask lo : List ℕ) (digits front : ℕ) → IsCorner mask lo digits front → (a : ℕ) → a < length lo → get_or lo a 0 + stride mask digits a - 1 < 2 ^ bit_count a mask
upper_below mask lo digits front corner a within =
    let some : 0 < stride mask digits a = pow_pos (bit_count a (drop digits mask)) in
    let x : ℕ = get_or lo a 0 + stride mask digits a - 1 in
    let same : x / stride mask digits a ≡ get_or lo a 0 / stride mask digits a = (between_iff (stride mask digits a) (get_or lo a 0) x some (corner_multiple mask lo digits front corner a within)).0 (omega arith, omega arith) in
    below-from_quotient mask digits a x (omega (arith, quotient-small mask lo digits front corner a within))

bound_at : (lo hi : List ℕ) (a : ℕ) → length lo ≡ length hi → a < length lo → get_or (zip lo hi) a (0, 0) ≡ (get_or lo a 0, get_or hi a 0)
bound_at lo hi a same within = let inside : a < length hi = omega arith in get_or-zip lo hi a (0, 0) within inside

-- a point of the box has the quotients
quotient-from_LiesIn : (mask lo hi p : List ℕ) (digits front : ℕ) → IsCorner mask lo digits front → length lo ≡ length hi → AreUpper mask lo hi digits → LiesIn (zip lo hi) p → (a : ℕ) → a < length lo → get_or p a 0 / stride mask digits a ≡ get_or lo a 0 / stride mask digits a
quotient-from_LiesIn mask lo hi p digits front corner same upper lies a within =
    let inside : a < length (zip lo hi) = omega (arith, length-zip_ends lo hi same) in
    let between : IsBetween (get_or lo a 0, get_or hi a 0) (get_or p a 0) = subst (λ b. IsBetween b (get_or p a 0)) (bound_at lo hi a same within) (LiesIn-at_axis (zip lo hi) p lies a inside) in
    (between_iff (stride mask digits a) (get_or lo a 0) (get_or p a 0) (pow_pos (bit_count a (drop digits mask))) (corner_multiple mask lo digits front corner a within)).0
    (between.0, omega (arith, between.1, upper a within))

LiesIn-from_quotient : (mask lo hi p : List ℕ) (digits front : ℕ) → IsCorner mask lo digits front → length lo ≡ length hi → AreUpper mask lo hi digits → length p ≡ length lo → ((a : ℕ) → a < length lo → get_or p a 0 / stride mask digits a ≡ get_or lo a 0 / stride mask digits a) → LiesIn (zip lo hi) p
LiesIn-from_quotient mask lo hi p digits front corner same upper size quotient =
    LiesIn-from_axes (zip lo hi) p (size ∙ sym (length-zip_ends lo hi same))
    (λ a inside.
    let within : a < length lo = omega (arith, length-zip_ends lo hi same) in
    let between = (between_iff (stride mask digits a) (get_or lo a 0) (get_or p a 0) (pow_pos (bit_count a (drop digits mask))) (corner_multiple mask lo digits front corner a within)).1 (quotient a within) in
    subst (λ b. IsBetween b (get_or p a 0)) (sym (bound_at lo hi a same within)) (between.0, omega (arith, between.1, upper a within)))

-- the box has exactly the points whose addresses begin with the digits
pub box_iff_prefix : (mask lo hi p : List ℕ) (digits front : ℕ) → IsCorner mask lo digits front → length lo ≡ length hi → AreUpper mask lo hi digits → LiesIn (zip lo hi) p ↔ HasPrefix mask (length lo) digits front p
box_iff_prefix mask lo hi p digits front corner same upper = (
  λ lies.
      let size : length p ≡ length lo = length_from_LiesIn (zip lo hi) p lies ∙ length-zip_ends lo hi same in
      let quotient = quotient-from_LiesIn mask lo hi p digits front corner same upper lies in
      let has : HasAddress mask p = record {
        named = subst (λ n. NamesAxes mask n) (sym size) corner.has.named;
        below = λ a within.
            let inside : a < length lo = omega arith in
            below-from_quotient mask digits a (get_or p a 0) (omega (arith, quotient a inside, quotient-small mask lo digits front corner a inside));
      } in
      record {
        size = size;
        has = has;
        prefix = (prefix_iff_strides mask p digits front has corner.fits corner.small).1
            (λ a within. let inside : a < length lo = omega arith in quotient a inside ∙ corner_quotient mask lo digits front corner a inside);
      },
  λ prefix. LiesIn-from_quotient mask lo hi p digits front corner same upper prefix.size
      (λ a within.
      (prefix_iff_strides mask p digits front prefix.has corner.fits corner.small).0 prefix.prefix a (omega (arith, prefix.size))
      ∙ sym (corner_quotient mask lo digits front corner a within)),
)

-- ---- how many points

-- an axis is counted once at most
none_behind : (d b n : ℕ) → d < b → sum_by (λ a. if d == a then 1 else 0) (range_with_len b n) ≡ 0
none_behind d b zero behind = refl
none_behind d b (suc n) behind =
    let other : d ≢ b = λ same. omega arith in
    sum_by-cons (λ a. if d == a then 1 else 0) b (range_with_len (b + 1) n) ∙ rw (ne_eqb d b other) (omega (arith, none_behind d (b + 1) n (omega arith)))

one_at_most : (d b n : ℕ) → sum_by (λ a. if d == a then 1 else 0) (range_with_len b n) ≤ 1
one_at_most d b zero = omega arith
one_at_most d b (suc n) =
    rw (sum_by-cons (λ a. if d == a then 1 else 0) b (range_with_len (b + 1) n))
    (⊎_elim
    (λ (same : d ≡ b). rw (eq-eqb d b same) (omega (arith, none_behind d (b + 1) n (omega arith))))
    (λ (other : d ≢ b). rw (ne_eqb d b other) (omega (arith, one_at_most d (b + 1) n)))
    (cases_eq d b))

sum_by-add : (f g : ℕ → ℕ) (xs : List ℕ) → sum_by (λ a. f a + g a) xs ≡ sum_by f xs + sum_by g xs
sum_by-add f g [] = refl
sum_by-add f g (x ∷ xs) =
    omega (arith, sum_by-cons (λ a. f a + g a) x xs, sum_by-cons f x xs, sum_by-cons g x xs, sum_by-add f g xs)

sum_by-zero : (xs : List ℕ) → sum_by (λ _. 0) xs ≡ 0
sum_by-zero [] = refl
sum_by-zero (x ∷ xs) = sum_by-cons (λ _. 0) x xs ∙ omega (arith, sum_by-zero xs)

-- so the axes' digits are no more than all digits
bits_together : (mask : List ℕ) (n : ℕ) → sum_by (λ a. bit_count a mask) (range_with_len 0 n) ≤ length mask
bits_together [] n = omega (arith, sum_by-zero (range_with_len 0 n))
bits_together (d ∷ finer) n =
    omega (arith, sum_by-add (λ a. if d == a then 1 else 0) (λ a. bit_count a finer) (range_with_len 0 n), one_at_most d 0 n, bits_together finer n)

-- the number of points of a box whose extents are powers of two
size-powers : (f : ℕ → ℕ) (b : ℕ) (lo hi : List ℕ) → length lo ≡ length hi → ((a : ℕ) → a < length lo → extent (get_or lo a 0, get_or hi a 0) ≡ 2 ^ f (b + a)) → size (zip lo hi) ≡ 2 ^ sum_by f (range_with_len b (length lo))
size-powers f b [] [] same wide = refl
size-powers f b [] (y ∷ ys) same wide = absurd (omega arith)
size-powers f b (x ∷ xs) [] same wide = absurd (omega arith)
size-powers f b (x ∷ xs) (y ∷ ys) same wide =
    let here : extent (x, y) ≡ 2 ^ f b = wide 0 (omega arith) ∙ ap (λ n. 2 ^ f n) (omega arith) in
    let rest : size (zip xs ys) ≡ 2 ^ sum_by f (range_with_len (b + 1) (length xs)) =
    size-powers f (b + 1) xs ys (omega arith) (λ a within. wide (suc a) (omega arith) ∙ ap (λ n. 2 ^ f n) (omega arith)) in
    (λ i. here i * rest i) ∙ sym (pow-add 2 (f b) (sum_by f (range_with_len (b + 1) (length xs)))) ∙ ap (λ n. 2 ^ n) (sym (sum_by-cons f b (range_with_len (b + 1) (length xs))))

pub few_in_box : (mask lo hi : List ℕ) (digits : ℕ) → length mask ≤ 40 → length lo ≡ length hi → AreUpper mask lo hi digits → length (points (zip lo hi)) ≤ 2 ^ 40
few_in_box mask lo hi digits few same upper =
    let f : ℕ → ℕ = λ a. bit_count a (drop digits mask) in
    let bits : sum_by f (range_with_len 0 (length lo)) ≤ 40 = omega (arith, bits_together (drop digits mask) (length lo), length-drop digits mask) in
    let whole : size (zip lo hi) ≡ 2 ^ sum_by f (range_with_len 0 (length lo)) =
    size-powers f 0 lo hi same
    (λ a within.
    let first : a ≡ 0 + a = omega arith in
    let wide : extent (get_or lo a 0, get_or hi a 0) ≡ 2 ^ f a = omega (arith, upper a within, pow_pos (f a)) in
    wide ∙ ap (λ n. 2 ^ f n) first) in
    omega (arith, length-points (zip lo hi), pow_mono bits)

-- the ends make a region
pub AreEnds-box : (mask lo hi : List ℕ) (digits : ℕ) → length mask ≤ 40 → length lo ≡ length hi → AreUpper mask lo hi digits → AreEnds lo hi
AreEnds-box mask lo hi digits few same upper = record {
  same_axes = same;
  ordered = IsOrdered-zip lo hi same (λ a within. omega (arith, upper a within, pow_pos (bit_count a (drop digits mask))));
  few = few_in_box mask lo hi digits few same upper;
}
