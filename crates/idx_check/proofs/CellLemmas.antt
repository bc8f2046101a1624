-- Cells: where the points of a run of addresses of one level lie.
use Rattle.std.proofs.Common.{◌≡◌, ◌≢◌, ℕ, zero, suc, ◌+◌, ◌-◌, ◌*◌, ◌/◌, ◌%◌, ◌^◌, ◌<◌, ◌≤◌, Bool, true, false, List, [], ◌∷◌, length, get_or, set, take, drop, refl, sym, ap, ◌∙◌, ⊎_elim, subst, arith, take-append-drop, eq-eqb, eqb-true}
use Rattle.std.specs.Int.{bit_at}
use Rattle.std.proofs.Math.Nat.{div-div-eq-div-mul, div-mul-le_self, mod-lt, mul-le-mul_right, mul_assoc, pow-suc, div-eq_of_lt}
use Rattle.std.proofs.Math.Pow.{pow_mono}
use Rattle.std.proofs.lemmas.Bool.{cases_eq, cases_lt}
use Rattle.std.proofs.lemmas.Nat.{div-add-mod', div-mul-add, pow-add, pow_pos}
use Rattle.std.proofs.lemmas.Nat.Bits.{bit_at-lt, bit_at_cat_low}
use Rattle.std.proofs.lemmas.List.{drop-drop, get_or-map, get_or-set_same, get_or-set_other, length-map, length-set}
use Rattle.std.proofs.lemmas.List.Elements.{All-get_or}
use Rattle.idx_geom.specs.Region.{LiesIn, upper_ends}
use Rattle.idx_geom.proofs.LiesInLemmas.{LiesIn-at_axis, LiesIn-from_axes, length_from_LiesIn}
use Rattle.idx_hz.specs.Mask.{HasAddress, NamesAxes, bit_count}
use Rattle.idx_hz.specs.Address.{hz_address, level, z_address}
use Rattle.idx_hz.specs.Stride.{stride}
use Rattle.idx_hz.proofs.AddressLaws.{hz_address-onto}
use Rattle.idx_hz.proofs.BlockLemmas.{block_iff_prefix}
use Rattle.idx_hz.proofs.LevelLemmas.{stride_of_digit, stride_of_other}
use Rattle.idx_hz.proofs.RegionLemmas.{HasAddress-from_end}
use Rattle.idx_hz.proofs.ZLemmas.{bit_at-digit, bit_count-append, z_address-lt}
use Rattle.idx_grid.specs.Block.{IsInBlock}
use Rattle.idx_grid.specs.LevelGrid.{first_of, first_on, strides}
use Rattle.idx_grid.proofs.LevelGridLemmas.{IsOnAxes-at_axis, first_on-digit, first_on-other, get_or-first_of, get_or-strides, length-strides, on_grid_at_iff, stride-twice}
use Rattle.idx_layout.proofs.PresentLemmas.{any_point, point_found}
use Rattle.idx_check.proofs.NatLemmas.{below_all}
use Rattle.idx_check.specs.Cell.{AreEndsOf, HaveAxes, IsAround, IsCell, IsHeld}
use Rattle.idx_check.specs.Wanted.{is_address_of}
use Rattle.idx_check.specs.declared.cell.Cell.{Cell}
use Rattle.idx_check.specs.declared.cell.Level.{Level}

-- ---- strides

-- a stride is a multiple of that of a later place
pub stride_parts : (mask : List ℕ) (k h a : ℕ) → k ≤ h → (m : ℕ) × (stride mask k a ≡ m * stride mask h a)
stride_parts mask k h a le =
    let split : k + (h - k) ≡ h = omega (arith, le) in
    let again : drop (h - k) (drop k mask) ≡ drop h mask = drop-drop (h - k) k mask ∙ ap (λ n. drop n mask) split in
    let front : ℕ = bit_count a (take (h - k) (drop k mask)) in
    let parts : bit_count a (drop k mask) ≡ front + bit_count a (drop h mask) =
    ap (bit_count a) (sym (take-append-drop (h - k) (drop k mask))) ∙ bit_count-append a (take (h - k) (drop k mask)) (drop (h - k) (drop k mask))
    ∙ ap (λ n. front + n) (ap (bit_count a) again) in
    (2 ^ front, ap (λ n. 2 ^ n) parts ∙ pow-add 2 front (bit_count a (drop h mask)))

-- the first coordinate of a level on an axis is below the step
pub first_below : (mask : List ℕ) (h a : ℕ) → 1 ≤ h → h ≤ length mask → first_on mask h a < stride mask (h - 1) a
first_below mask h a some few = ⊎_elim
    (λ (same : get_or mask (h - 1) 0 ≡ a).
    omega (arith, first_on-digit mask h a some same, stride-twice mask h a some few same, pow_pos (bit_count a (drop h mask))))
    (λ (other : get_or mask (h - 1) 0 ≢ a).
    omega (arith, first_on-other mask h a other, pow_pos (bit_count a (drop (h - 1) mask))))
    (cases_eq (get_or mask (h - 1) 0) a)

-- ---- one axis

-- a point of the level's grid between two multiples of a stride
pub between : (p f j step m size : ℕ) → p ≡ f + j * step → f < step → size ≡ m * step → 0 < size → (p / size * size + f ≤ p) × (p + step ≤ p / size * size + f + size)
between p f j step m size on small whole some =
    let b : ℕ = p / size * m in
    let front : p / size * size ≡ b * step = ap (λ n. p / size * n) whole ∙ sym (mul_assoc (p / size) m step) in
    let back : p / size * size + size ≡ (b + m) * step = ap (λ n. n + size) front ∙ ap (λ n. b * step + n) whole ∙ sum b m step in
    let low : p / size * size ≤ p = div-mul-le_self p size in
    let high : p < p / size * size + size = omega (arith, div-add-mod' p size, mod-lt p some) in
    let next : (j + 1) * step ≡ j * step + step = one j step in
    let from : b ≤ j = ⊎_elim
    (λ (more : j < b).
    let le : j + 1 ≤ b = omega (arith, more) in
    let times : (j + 1) * step ≤ b * step = mul-le-mul_right step le in
    absurd (omega (arith, times, next, front, low, on, small)))
    (λ (le : b ≤ j). le)
    (cases_lt j b) in
    let to : j + 1 ≤ b + m = ⊎_elim
    (λ (less : j < b + m). omega (arith, less))
    (λ (le : b + m ≤ j).
    let times : (b + m) * step ≤ j * step = mul-le-mul_right step le in
    absurd (omega (arith, times, back, high, on)))
    (cases_lt j (b + m)) in
    let begins : b * step ≤ j * step = mul-le-mul_right step from in
    let ends : (j + 1) * step ≤ (b + m) * step = mul-le-mul_right step to in
    (omega (arith, begins, front, on), omega (arith, ends, next, back, on))
  where
    sum : (x y s : ℕ) → x * s + y * s ≡ (x + y) * s
    sum x y s = grind arith

    one : (x s : ℕ) → (x + 1) * s ≡ x * s + s
    one x s = grind arith

-- the multiple of half a stride before a coordinate
pub half_multiple : (p size half bit f first : ℕ) → size ≡ half * 2 → p / half % 2 ≡ bit → first ≡ p / size * size + f → first + bit * half ≡ p / half * half + f
half_multiple p size half bit f first twice odd is =
    let q : ℕ = p / half in
    let front : p / size ≡ q / 2 = ap (λ n. p / n) twice ∙ sym (div-div-eq-div-mul p half 2) in
    let parts : q / 2 * 2 + bit ≡ q = ap (λ n. q / 2 * 2 + n) (sym odd) ∙ div-add-mod' q 2 in
    let low : p / size * size ≡ q / 2 * (half * 2) = ap (λ n. n * size) front ∙ ap (λ n. q / 2 * n) twice in
    is_sum first bit half f q (q / 2) (is ∙ ap (λ n. n + f) low) parts
  where
    is_sum : (first bit half f q r : ℕ) → first ≡ r * (half * 2) + f → r * 2 + bit ≡ q → first + bit * half ≡ q * half + f
    is_sum first bit half f q r a b = ap (λ n. n + bit * half) a ∙ grind arith ∙ ap (λ n. n * half + f) b

-- ---- digits

-- a digit of a Z address is a bit of the coordinate on its axis
pub digit_bit : (mask p : List ℕ) (d : ℕ) → d < length mask → bit_at (z_address mask p) (length mask - suc d) ≡ bit_at (get_or p (get_or mask d 0) 0) (bit_count (get_or mask d 0) (drop (suc d) mask))
digit_bit [] p d within = absurd (omega arith)
digit_bit (axis ∷ finer) p zero within =
    let behind : suc (length finer) - 1 ≡ length finer = omega arith in
    ap (bit_at (z_address (axis ∷ finer) p)) behind
    ∙ bit_at-digit (bit_at (get_or p axis 0) (bit_count axis finer)) (length finer) (z_address finer p) (bit_at-lt (get_or p axis 0) (bit_count axis finer)) (z_address-lt finer p)
digit_bit (axis ∷ finer) p (suc d) within =
    let behind : suc (length finer) - suc (suc d) ≡ length finer - suc d = omega arith in
    let inside : length finer - suc d < length finer = omega arith in
    ap (bit_at (z_address (axis ∷ finer) p)) behind
    ∙ bit_at_cat_low (bit_at (get_or p axis 0) (bit_count axis finer)) (length finer) (z_address finer p) (length finer - suc d) inside
    ∙ digit_bit finer p d (omega arith)

-- ---- halves of a run

-- the numbers of the halves
pub half_from : (k number bit : ℕ) → 2 ^ k ≤ number → 2 ^ suc k ≤ 2 * number + bit
half_from k number bit from = omega (arith, pow-suc 2 k, from)

pub half_to : (k number bit : ℕ) → number < 2 ^ k → bit < 2 → 2 * number + bit < 2 ^ suc k
half_to k number bit to small = omega (arith, pow-suc 2 k, to, small)

-- a point of a half is one of the run
pub in_whole : (mask p : List ℕ) (axes bits number bit : ℕ) → 1 ≤ bits → bit < 2 → IsInBlock mask axes (bits - 1) (2 * number + bit) p → IsInBlock mask axes bits number p
in_whole mask p axes bits number bit some small here =
    let next : suc (bits - 1) ≡ bits = omega (arith, some) in
    let double : 2 ^ bits ≡ 2 ^ (bits - 1) * 2 = ap (λ n. 2 ^ n) (sym next) ∙ pow-suc 2 (bits - 1) in
    let turn : 2 * number + bit ≡ number * 2 + bit = omega arith in
    record {
      size = here.size;
      has = here.has;
      address = ap (λ n. hz_address mask p / n) double ∙ sym (div-div-eq-div-mul (hz_address mask p) (2 ^ (bits - 1)) 2) ∙ ap (λ n. n / 2) (here.address ∙ turn) ∙ div-mul-add number 2 bit small;
    }

-- its coordinate on the axis of the next digit
pub half_digit : (mask p : List ℕ) (axes bits k number bit : ℕ) → 1 ≤ bits → bit < 2 → k < length mask → 2 ^ k ≤ number → number < 2 ^ suc k → IsInBlock mask axes (bits - 1) (2 * number + bit) p →
    get_or p (get_or mask k 0) 0 / stride mask (suc k) (get_or mask k 0) % 2 ≡ bit
half_digit mask p axes bits k number bit some small within from to here =
    let z : ℕ = z_address mask p in
    let parts = block_iff_prefix (length mask) z (bits - 1) (suc k) (2 * number + bit) (z_address-lt mask p) (half_from k number bit from) (half_to (suc k) number bit to small) in
    let front : z / 2 ^ (length mask - suc k) ≡ 2 * number + bit - 2 ^ suc k = (parts.0 here.address).1 in
    let rest : 2 * number + bit - 2 ^ suc k ≡ (number - 2 ^ k) * 2 + bit = omega (arith, pow-suc 2 k, from) in
    let odd : bit_at z (length mask - suc k) ≡ bit = ap (λ n. n % 2) (front ∙ rest) ∙ last (number - 2 ^ k) bit small in
    sym (digit_bit mask p k within) ∙ odd
  where
    last : (n b : ℕ) → b < 2 → (n * 2 + b) % 2 ≡ b
    last n b few = omega (arith, few)

-- the first coordinates of a half
pub half_first : (mask p firsts : List ℕ) (k axis bit from h a : ℕ) → k < length mask → axis ≡ get_or mask k 0 → axis < length firsts → get_or p axis 0 / stride mask (suc k) axis % 2 ≡ bit →
    from ≡ get_or firsts axis 0 + bit * stride mask (suc k) axis → get_or firsts a 0 ≡ get_or p a 0 / stride mask k a * stride mask k a + first_on mask h a →
    get_or (set firsts axis from) a 0 ≡ get_or p a 0 / stride mask (suc k) a * stride mask (suc k) a + first_on mask h a
half_first mask p firsts k axis bit from h a within names room odd is old = ⊎_elim
    (λ (same : axis ≡ a).
    let double : stride mask k a ≡ stride mask (suc k) a * 2 = ap (λ n. 2 ^ n) (stride_of_digit mask k a within (sym names ∙ same)) ∙ pow-suc 2 (bit_count a (drop (suc k) mask)) in
    let odd_here : get_or p a 0 / stride mask (suc k) a % 2 ≡ bit = subst (λ (x : ℕ). get_or p x 0 / stride mask (suc k) x % 2 ≡ bit) same odd in
    let from_is : from ≡ get_or firsts a 0 + bit * stride mask (suc k) a = is ∙ ap (λ x. get_or firsts x 0 + bit * stride mask (suc k) x) same in
    ap (λ x. get_or (set firsts axis from) x 0) (sym same) ∙ get_or-set_same firsts axis from 0 room ∙ from_is
    ∙ half_multiple (get_or p a 0) (stride mask k a) (stride mask (suc k) a) bit (first_on mask h a) (get_or firsts a 0) double odd_here old)
    (λ (other : axis ≢ a).
    let same_stride : stride mask k a ≡ stride mask (suc k) a = ap (λ n. 2 ^ n) (stride_of_other mask k a within (λ e. other (names ∙ e))) in
    get_or-set_other firsts axis a from 0 (λ e. other (sym e)) ∙ old ∙ ap (λ s. get_or p a 0 / s * s + first_on mask h a) same_stride)
    (cases_eq axis a)

-- and their ends
pub half_end : (mask firsts ends : List ℕ) (k axis from to a : ℕ) → k < length mask → axis ≡ get_or mask k 0 → axis < length firsts → axis < length ends → to ≡ from + stride mask (suc k) axis →
    get_or ends a 0 ≡ get_or firsts a 0 + stride mask k a → get_or (set ends axis to) a 0 ≡ get_or (set firsts axis from) a 0 + stride mask (suc k) a
half_end mask firsts ends k axis from to a within names room_first room_end is old = ⊎_elim
    (λ (same : axis ≡ a).
    ap (λ x. get_or (set ends axis to) x 0) (sym same) ∙ get_or-set_same ends axis to 0 room_end ∙ is
    ∙ ap (λ n. n + stride mask (suc k) axis) (sym (get_or-set_same firsts axis from 0 room_first)) ∙ ap (λ x. get_or (set firsts axis from) x 0 + stride mask (suc k) x) same)
    (λ (other : axis ≢ a).
    let same_stride : stride mask k a ≡ stride mask (suc k) a = ap (λ n. 2 ^ n) (stride_of_other mask k a within (λ e. other (names ∙ e))) in
    get_or-set_other ends axis a to 0 (λ e. other (sym e)) ∙ old ∙ ap (λ s. get_or firsts a 0 + s) same_stride
    ∙ ap (λ n. n + stride mask (suc k) a) (sym (get_or-set_other firsts axis a from 0 (λ e. other (sym e)))))
    (cases_eq axis a)

-- ---- cells

-- the axes of a box are those of its mask
pub names_box : (mask : List ℕ) (box : List (ℕ × ℕ)) → HasAddress mask (upper_ends box) → NamesAxes mask (length box)
names_box mask box address = subst (λ (n : ℕ). NamesAxes mask n) (length-map box (λ (b : ℕ × ℕ). b.1)) address.named

-- the axis of the next digit, and half of the cell's width on it
pub record IsNext (l : Level) (cell : Cell) (axis : ℕ) : Type 0 where
  pub within : cell.digits < length l.mask
  pub inside : axis < length l.region
  pub ordered : get_or cell.first axis 0 ≤ get_or cell.end axis 0
  pub width : (get_or cell.end axis 0 - get_or cell.first axis 0) / 2 ≡ stride l.mask (suc cell.digits) axis
  pub whole : get_or cell.end axis 0 ≡ get_or cell.first axis 0 + stride l.mask (suc cell.digits) axis * 2

pub next_of : (l : Level) (cell : Cell) (axis : ℕ) → HasAddress l.mask (upper_ends l.region) → IsCell l cell → 1 ≤ cell.bits → axis ≡ get_or l.mask cell.digits 0 → IsNext l cell axis
next_of l cell axis address is some names =
    let within : cell.digits < length l.mask = omega (arith, is.within) in
    let digit : get_or l.mask cell.digits 0 < length l.region = All-get_or (λ d. d < length l.region) l.mask cell.digits 0 within (names_box l.mask l.region address) in
    let inside : axis < length l.region = omega (arith, digit, names) in
    let double : stride l.mask cell.digits axis ≡ stride l.mask (suc cell.digits) axis * 2 = ap (λ n. 2 ^ n) (stride_of_digit l.mask cell.digits axis within (sym names)) ∙ pow-suc 2 (bit_count axis (drop (suc cell.digits) l.mask)) in
    let whole : get_or cell.end axis 0 ≡ get_or cell.first axis 0 + stride l.mask (suc cell.digits) axis * 2 = is.end axis inside ∙ ap (λ n. get_or cell.first axis 0 + n) double in
    record {
      within = within;
      inside = inside;
      ordered = omega (arith, whole);
      width = by_half (get_or cell.end axis 0) (get_or cell.first axis 0) (stride l.mask (suc cell.digits) axis) whole;
      whole = whole;
    }
  where
    by_half : (e f s : ℕ) → e ≡ f + s * 2 → (e - f) / 2 ≡ s
    by_half e f s h = omega (arith, h)

-- a half of a cell
pub cell_half : (l : Level) (cell : Cell) (axis bit width : ℕ) → HasAddress l.mask (upper_ends l.region) → IsCell l cell → 1 ≤ cell.bits → bit < 2 → axis ≡ get_or l.mask cell.digits 0 →
    axis < length cell.first → axis < length cell.end → width ≡ stride l.mask (suc cell.digits) axis →
    IsCell l (record {
      bits = cell.bits - 1;
      digits = cell.digits + 1;
      number = 2 * cell.number + bit;
      first = set cell.first axis (get_or cell.first axis 0 + bit * width);
      end = set cell.end axis (get_or cell.first axis 0 + bit * width + width);
    })
cell_half l cell axis bit width address is some small names room_first room_end width_is =
    let k : ℕ = cell.digits in
    let n : ℕ = length l.region in
    let next : k + 1 ≡ suc k = omega arith in
    let later : k + 1 + 1 ≡ suc (suc k) = omega arith in
    let sum : cell.bits + k ≡ cell.bits - 1 + (k + 1) = omega (arith, some) in
    let from : ℕ = get_or cell.first axis 0 + bit * width in
    let from_is : from ≡ get_or cell.first axis 0 + bit * stride l.mask (suc k) axis = ap (λ w. get_or cell.first axis 0 + bit * w) width_is in
    let low : 2 ^ suc k ≤ 2 * cell.number + bit = half_from k cell.number bit is.from in
    let to : cell.number < 2 ^ suc k = subst (λ (m : ℕ). cell.number < 2 ^ m) next is.to in
    let within : k < length l.mask = omega (arith, is.within) in
    record {
      within = omega (arith, sum, is.within);
      from = subst (λ (m : ℕ). 2 ^ m ≤ 2 * cell.number + bit) (sym next) low;
      to = subst (λ (m : ℕ). 2 * cell.number + bit < 2 ^ m) (sym later) (half_to (suc k) cell.number bit to small);
      ends = is.ends;
      starts = length-set cell.first axis from ∙ is.starts;
      stops = length-set cell.end axis (from + width) ∙ is.stops;
      step = is.step ∙ ap (λ m. strides l.mask m n) sum;
      first = λ p here a inside.
          let odd : get_or p axis 0 / stride l.mask (suc k) axis % 2 ≡ bit =
          subst (λ (x : ℕ). get_or p x 0 / stride l.mask (suc k) x % 2 ≡ bit) (sym names) (half_digit l.mask p n cell.bits k cell.number bit some small within is.from to here) in
          let old = is.first p (in_whole l.mask p n cell.bits cell.number bit some small here) a inside in
          subst (λ (m : ℕ). get_or (set cell.first axis from) a 0 ≡ get_or p a 0 / stride l.mask m a * stride l.mask m a + first_on l.mask (cell.bits - 1 + (k + 1) + 1) a) (sym next)
          (half_first l.mask p cell.first k axis bit from (cell.bits - 1 + (k + 1) + 1) a within names room_first odd from_is
          (old ∙ ap (λ m. get_or p a 0 / stride l.mask k a * stride l.mask k a + first_on l.mask (m + 1) a) sum));
      end = λ a inside.
          subst (λ (m : ℕ). get_or (set cell.end axis (from + width)) a 0 ≡ get_or (set cell.first axis from) a 0 + stride l.mask m a) (sym next)
          (half_end l.mask cell.first cell.end k axis from (from + width) a within names room_first room_end (ap (λ w. from + w) width_is) (is.end a inside));
    }

-- the cell of a whole level
pub cell_whole : (l : Level) (bits : ℕ) (firsts ends : List ℕ) → bits < length l.mask → AreEndsOf l → length firsts ≡ 5 → length ends ≡ 5 → l.step ≡ strides l.mask bits (length l.region) →
    ((a : ℕ) → a < length l.region → get_or firsts a 0 ≡ first_on l.mask (bits + 1) a) → ((a : ℕ) → a < length l.region → get_or ends a 0 ≡ get_or firsts a 0 + stride l.mask 0 a) →
    IsCell l (record { bits = bits; digits = 0; number = 1; first = firsts; end = ends })
cell_whole l bits firsts ends within beside starts stops step first end =
    let none : bits + 0 ≡ bits = omega arith in
    record {
      within = omega (arith, within);
      from = omega arith;
      to = omega arith;
      ends = beside;
      starts = starts;
      stops = stops;
      step = step ∙ ap (λ m. strides l.mask m (length l.region)) (sym none);
      first = λ p here a inside.
          let axis : a < length p = omega (arith, inside, here.size) in
          let front : get_or p a 0 / stride l.mask 0 a ≡ 0 = div-eq_of_lt (here.has.below a axis) in
          let lowest : 0 * stride l.mask 0 a + first_on l.mask (bits + 1) a ≡ first_on l.mask (bits + 1) a = omega arith in
          first a inside ∙ sym lowest ∙ ap (λ q. q * stride l.mask 0 a + first_on l.mask (bits + 1) a) (sym front) ∙ ap (λ m. get_or p a 0 / stride l.mask 0 a * stride l.mask 0 a + first_on l.mask (m + 1) a) (sym none);
      end = end;
    }

-- the points of a run lie in its cell
pub cell_around : (l : Level) (cell : Cell) (p : List ℕ) → IsCell l cell → IsInBlock l.mask (length l.region) cell.bits cell.number p → IsAround l cell p
cell_around l cell p is here = λ a inside.
    let mask : List ℕ = l.mask in
    let k : ℕ = cell.digits in
    let h : ℕ = cell.bits + k + 1 in
    let next : k + 1 ≡ suc k = omega arith in
    let top : suc (cell.bits + k) ≡ h = omega arith in
    let before : h - 1 ≡ cell.bits + k = omega arith in
    let deepest : h ≤ length mask = omega (arith, is.within) in
    let to : cell.number < 2 ^ suc k = subst (λ (m : ℕ). cell.number < 2 ^ m) next is.to in
    let level_is : level mask p ≡ h = ((block_iff_prefix (length mask) (z_address mask p) cell.bits k cell.number (z_address-lt mask p) is.from to).0 here.address).0 ∙ top in
    let axis : a < length p = omega (arith, inside, here.size) in
    let on = IsOnAxes-at_axis (first_of mask h (length p)) (strides mask (h - 1) (length p)) p
    ((on_grid_at_iff mask p (first_of mask h (length p)) (strides mask (h - 1) (length p)) h here.has.named deepest refl refl).0 level_is) a axis in
    let j : ℕ = on.0 in
    let at : get_or p a 0 ≡ first_on mask h a + j * stride mask (h - 1) a =
    on.1 ∙ ap (λ f. f + j * get_or (strides mask (h - 1) (length p)) a 0) (get_or-first_of mask h (length p) a axis) ∙ ap (λ s. first_on mask h a + j * s) (get_or-strides mask (h - 1) (length p) a axis) in
    let step_is : get_or l.step a 0 ≡ stride mask (h - 1) a = ap (λ (xs : List ℕ). get_or xs a 0) is.step ∙ get_or-strides mask (cell.bits + k) (length l.region) a inside ∙ ap (λ m. stride mask m a) (sym before) in
    let parts = stride_parts mask k (h - 1) a (omega (arith, before)) in
    let within = between (get_or p a 0) (first_on mask h a) j (stride mask (h - 1) a) parts.0 (stride mask k a) at (first_below mask h a (omega arith) deepest) parts.1 (pow_pos (bit_count a (drop k mask))) in
    (omega (arith, within.0, is.first p here a inside), omega (arith, within.1, is.first p here a inside, is.end a inside, step_is))

-- the run of which a run is a half
pub record IsTwice (bits digits number : ℕ) : Type 0 where
  pub sum : bits + digits ≡ bits + 1 + (digits - 1)
  pub from : 2 ^ (digits - 1) ≤ number / 2
  pub to : number / 2 < 2 ^ (digits - 1 + 1)

pub twice_of : (bits digits number : ℕ) → digits ≢ 0 → 2 ^ digits ≤ number → number < 2 ^ (digits + 1) → IsTwice bits digits number
twice_of bits digits number some from to =
    let next : suc (digits - 1) ≡ digits = omega (arith, some) in
    let same : digits - 1 + 1 ≡ digits = omega (arith, some) in
    let double : 2 ^ digits ≡ 2 ^ (digits - 1) * 2 = ap (λ n. 2 ^ n) (sym next) ∙ pow-suc 2 (digits - 1) in
    let upper : 2 ^ (digits + 1) ≡ 2 ^ digits * 2 ^ 1 = pow-add 2 digits 1 in
    let high : number / 2 < 2 ^ digits = halved_to number (2 ^ digits) (omega (arith, to, upper)) in
    record {
      sum = omega (arith, some);
      from = halved_from number (2 ^ (digits - 1)) (omega (arith, from, double));
      to = subst (λ (m : ℕ). number / 2 < 2 ^ m) (sym same) high;
    }
  where
    halved_from : (n m : ℕ) → m * 2 ≤ n → m ≤ n / 2
    halved_from n m h = omega (arith, h)

    halved_to : (n m : ℕ) → n < m * 2 → n / 2 < m
    halved_to n m h = omega (arith, h)

-- the number of a run exists
pub cell_exists : (l : Level) (cell : Cell) → IsCell l cell → cell.number < 2 ^ (length l.mask - cell.bits)
cell_exists l cell is =
    let le : cell.digits + 1 ≤ length l.mask - cell.bits = omega (arith, is.within) in
    let power : 2 ^ (cell.digits + 1) ≤ 2 ^ (length l.mask - cell.bits) = pow_mono le in
    omega (arith, is.to, power)

-- ---- a cell and a box

-- the ends of the box on an axis
lower_at : (l : Level) (a : ℕ) → AreEndsOf l → a < length l.region → get_or l.lo a 0 ≡ (get_or l.region a (0, 0)).0
lower_at l a ends within = ap (λ (xs : List ℕ). get_or xs a 0) ends.lo ∙ get_or-map (λ (b : ℕ × ℕ). b.0) l.region a (0, 0) 0 within

upper_at : (l : Level) (a : ℕ) → AreEndsOf l → a < length l.region → get_or l.hi a 0 ≡ (get_or l.region a (0, 0)).1
upper_at l a ends within = ap (λ (xs : List ℕ). get_or xs a 0) ends.hi ∙ get_or-map (λ (b : ℕ × ℕ). b.1) l.region a (0, 0) 0 within

-- the points beside the box have its axes
pub axes_of : (l : Level) (cell : Cell) → IsCell l cell → HaveAxes l
axes_of l cell is = record {
  lo = ap length is.ends.lo ∙ length-map l.region (λ (b : ℕ × ℕ). b.0);
  hi = ap length is.ends.hi ∙ length-map l.region (λ (b : ℕ × ℕ). b.1);
  step = ap length is.step ∙ length-strides l.mask (cell.bits + cell.digits) (length l.region);
}

-- no point of a cell lies in a box that ends before it on an axis
pub ends_before : (l : Level) (cell : Cell) (p : List ℕ) (a : ℕ) → AreEndsOf l → a < length l.region → get_or l.hi a 0 < get_or cell.first a 0 → IsAround l cell p → LiesIn l.region p → ⊥
ends_before l cell p a ends inside before around lies =
    let at = LiesIn-at_axis l.region p lies a inside in
    let here = around a inside in
    omega (arith, before, here.0, at.1, upper_at l a ends inside)

-- or begins behind it
pub begins_behind : (l : Level) (cell : Cell) (p : List ℕ) (a : ℕ) → AreEndsOf l → a < length l.region → get_or cell.end a 0 < get_or l.lo a 0 + get_or l.step a 0 → IsAround l cell p → LiesIn l.region p → ⊥
begins_behind l cell p a ends inside behind around lies =
    let at = LiesIn-at_axis l.region p lies a inside in
    let here = around a inside in
    omega (arith, behind, here.1, at.0, lower_at l a ends inside)

-- all points of a cell that the box holds lie in it
pub held_point : (l : Level) (cell : Cell) (p : List ℕ) → AreEndsOf l → length p ≡ length l.region → IsAround l cell p → IsHeld l cell → LiesIn l.region p
held_point l cell p ends size around held =
    LiesIn-from_axes l.region p size
    (λ a inside.
    let here = around a inside in
    let at = held a inside in
    (omega (arith, here.0, at.0, lower_at l a ends inside), omega (arith, here.1, at.1, upper_at l a ends inside)))

-- the box holds the cell of one address whose point lies in it
pub held_alone : (l : Level) (cell : Cell) (p : List ℕ) → IsCell l cell → cell.bits ≡ 0 → IsAround l cell p → LiesIn l.region p → IsHeld l cell
held_alone l cell p is alone around lies = λ a inside.
    let here = around a inside in
    let at = LiesIn-at_axis l.region p lies a inside in
    let none : cell.bits + cell.digits ≡ cell.digits = omega (arith, alone) in
    let step_is : get_or l.step a 0 ≡ stride l.mask cell.digits a =
    ap (λ (xs : List ℕ). get_or xs a 0) is.step ∙ get_or-strides l.mask (cell.bits + cell.digits) (length l.region) a inside ∙ ap (λ m. stride l.mask m a) none in
    (omega (arith, here.0, here.1, at.0, lower_at l a is.ends inside, is.end a inside, step_is), omega (arith, here.0, at.1, upper_at l a is.ends inside, is.end a inside, step_is))

-- all addresses of a run whose cell the box holds
pub all_inside : (l : Level) (cell : Cell) → HasAddress l.mask (upper_ends l.region) → IsCell l cell → IsHeld l cell →
    (i : ℕ) → i < 2 ^ cell.bits → is_address_of l.mask l.region (cell.number * 2 ^ cell.bits + i) ≡ true
all_inside l cell address is held i within =
    let small = below_all cell.number i cell.bits (length l.mask) (omega (arith, is.within)) (cell_exists l cell is) within in
    let found = hz_address-onto l.mask (length l.region) (cell.number * 2 ^ cell.bits + i) (names_box l.mask l.region address) small in
    let here : IsInBlock l.mask (length l.region) cell.bits cell.number found.0 = record {
      size = found.1;
      has = found.2;
      address = ap (λ n. n / 2 ^ cell.bits) found.3 ∙ div-mul-add cell.number (2 ^ cell.bits) i within;
    } in
    any_point l.region _ found.0 (held_point l cell found.0 is.ends found.1 (cell_around l cell found.0 is here) held) (eq-eqb (hz_address l.mask found.0) (cell.number * 2 ^ cell.bits + i) found.3)

-- and of one of which no point lies in the box
pub none_inside : (l : Level) (cell : Cell) → HasAddress l.mask (upper_ends l.region) → IsCell l cell → ((p : List ℕ) → IsAround l cell p → LiesIn l.region p → ⊥) →
    (i : ℕ) → i < 2 ^ cell.bits → is_address_of l.mask l.region (cell.number * 2 ^ cell.bits + i) ≡ false
none_inside l cell address is apart i within = by_test (is_address_of l.mask l.region (cell.number * 2 ^ cell.bits + i)) refl
  where
    by_test : (t : Bool) → is_address_of l.mask l.region (cell.number * 2 ^ cell.bits + i) ≡ t → is_address_of l.mask l.region (cell.number * 2 ^ cell.bits + i) ≡ false
    by_test false e = e
    by_test true e =
        let found = point_found l.region _ e in
        let at : hz_address l.mask found.0 ≡ cell.number * 2 ^ cell.bits + i = eqb-true (hz_address l.mask found.0) (cell.number * 2 ^ cell.bits + i) found.2 in
        let here : IsInBlock l.mask (length l.region) cell.bits cell.number found.0 = record {
          size = length_from_LiesIn l.region found.0 found.1;
          has = HasAddress-from_end l.mask l.region found.0 address found.1;
          address = ap (λ n. n / 2 ^ cell.bits) at ∙ div-mul-add cell.number (2 ^ cell.bits) i within;
        } in
        absurd (apart found.0 (cell_around l cell found.0 is here) found.1)
