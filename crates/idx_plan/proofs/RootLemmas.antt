-- The part of all points of a level.
use Rattle.std.proofs.Common.{◌≡◌, ◌≢◌, ℕ, suc, ◌+◌, ◌-◌, ◌*◌, ◌/◌, ◌%◌, ◌^◌, ◌<◌, ◌≤◌, ◌↔◌, List, length, get_or, set, drop, sym, ap, ◌∙◌, subst, ⊎_elim, arith}
use Rattle.std.proofs.Math.Nat.{div-eq_of_lt, mod-eq_of_lt, mul-le-mul_right, one-mul}
use Rattle.std.proofs.Math.Pow.{pow_mono}
use Rattle.std.proofs.lemmas.Bool.{cases_eq, cases_lt}
use Rattle.std.proofs.lemmas.Nat.{pow-add}
use Rattle.std.proofs.lemmas.List.{get_or-set_same, get_or-set_other, length-drop, length-map, length-set}
use Rattle.idx_geom.specs.Region.{upper_ends, lower_ends}
use Rattle.idx_geom.proofs.LiesInLemmas.{IsBetween, LiesIn-at_axis, LiesIn-from_axes}
use Rattle.idx_hz.specs.Mask.{HasAddress, bit_count}
use Rattle.idx_hz.specs.Address.{z_address}
use Rattle.idx_hz.specs.Stride.{stride}
use Rattle.idx_hz.proofs.MaskLemmas.{bit_count-le}
use Rattle.idx_hz.proofs.ZLemmas.{z_address-lt}
use Rattle.idx_hz.proofs.LevelLemmas.{stride_of_digit, stride_of_other}
use Rattle.idx_grid.specs.LevelGrid.{first_on}
use Rattle.idx_grid.proofs.GridLemmas.{lower_at, upper_at}
use Rattle.idx_grid.proofs.LevelGridLemmas.{first_on-digit}
use Rattle.idx_plan.specs.declared.part.Part.{Part}
use Rattle.idx_plan.specs.Parts.{AreCounts, Begins, IsFrom, IsPart, IsSpan, coordinate_on, point_on}
use Rattle.idx_plan.proofs.NumberLemmas.{fewer_behind, first_below, get_or-point_on, length-point_on}

-- ---- counts

-- one digit more
pub counts_more : (mask counts : List ℕ) (next place axis : ℕ) → next ≡ suc place → place < length mask → axis ≡ get_or mask place 0 → axis < 5 → AreCounts mask next counts → AreCounts mask place (set counts axis (get_or counts axis 0 + 1))
counts_more mask counts next place axis is within names small h = record {
  room = length-set counts axis (get_or counts axis 0 + 1) ∙ h.room;
  each = λ a few. ⊎_elim
      (λ (same : axis ≡ a).
      let room : axis < length counts = omega (arith, h.room) in
      let more : bit_count a (drop place mask) ≡ suc (bit_count a (drop (suc place) mask)) = stride_of_digit mask place a within (sym names ∙ same) in
      let old : get_or counts axis 0 ≡ bit_count a (drop (suc place) mask) = h.each axis small ∙ (λ i. bit_count (same i) (drop (is i) mask)) in
      ap (λ b. get_or (set counts axis (get_or counts axis 0 + 1)) b 0) (sym same) ∙ get_or-set_same counts axis (get_or counts axis 0 + 1) 0 room ∙ omega arith)
      (λ (other : axis ≢ a).
      get_or-set_other counts axis a (get_or counts axis 0 + 1) 0 (λ e. other (sym e)) ∙ h.each a few ∙ ap (λ n. bit_count a (drop n mask)) is
      ∙ sym (stride_of_other mask place a within (λ e. other (names ∙ e))))
      (cases_eq axis a);
}

-- and one less
pub counts_less : (mask counts : List ℕ) (place next axis : ℕ) → next ≡ suc place → place < length mask → axis ≡ get_or mask place 0 → axis < 5 → AreCounts mask place counts → AreCounts mask next (set counts axis (get_or counts axis 0 - 1))
counts_less mask counts place next axis is within names small h = record {
  room = length-set counts axis (get_or counts axis 0 - 1) ∙ h.room;
  each = λ a few. ⊎_elim
      (λ (same : axis ≡ a).
      let room : axis < length counts = omega (arith, h.room) in
      let more : bit_count a (drop place mask) ≡ suc (bit_count a (drop (suc place) mask)) = stride_of_digit mask place a within (sym names ∙ same) in
      let old : get_or counts axis 0 ≡ bit_count a (drop place mask) = h.each axis small ∙ ap (λ b. bit_count b (drop place mask)) same in
      let here : get_or counts axis 0 - 1 ≡ bit_count a (drop (suc place) mask) = omega (arith, more, old) in
      ap (λ b. get_or (set counts axis (get_or counts axis 0 - 1)) b 0) (sym same) ∙ get_or-set_same counts axis (get_or counts axis 0 - 1) 0 room ∙ here
      ∙ ap (λ n. bit_count a (drop n mask)) (sym is))
      (λ (other : axis ≢ a).
      get_or-set_other counts axis a (get_or counts axis 0 - 1) 0 (λ e. other (sym e)) ∙ h.each a few
      ∙ stride_of_other mask place a within (λ e. other (names ∙ e)) ∙ ap (λ n. bit_count a (drop n mask)) (sym is))
      (cases_eq axis a);
}

-- ---- one axis

-- on an axis the numbers are those of the coordinates between the region's bounds
pub record IsOn (mask : List ℕ) (region : List (ℕ × ℕ)) (level axis first end left : ℕ) : Type 0 where
  pub span : IsSpan first end left
  pub numbers : (n : ℕ) → IsFrom first end n ↔ IsBetween (get_or region axis (0, 0)) (coordinate_on mask level axis n)
  pub digits : left + bit_count axis (drop (level - 1) mask) ≡ bit_count axis mask

-- the numbers by their ends
pub numbers_on : (mask : List ℕ) (region : List (ℕ × ℕ)) (level axis first step from end lo hi : ℕ) → first ≡ first_on mask level axis → step ≡ stride mask (level - 1) axis →
    lo ≡ (get_or region axis (0, 0)).0 → hi ≡ (get_or region axis (0, 0)).1 →
    ((n : ℕ) → (n < from) ↔ (first + n * step < lo)) → ((n : ℕ) → (n < end) ↔ (first + n * step < hi + 1)) →
    (n : ℕ) → IsFrom from end n ↔ IsBetween (get_or region axis (0, 0)) (coordinate_on mask level axis n)
numbers_on mask region level axis first step from end lo hi f s l h low high n =
    let same : first + n * step ≡ coordinate_on mask level axis n = (λ i. f i + n * s i) in (
      λ w.
          let above : from ≤ n = w.0 in
          let below : first + n * step < hi + 1 = (high n).0 w.1 in
          let at : lo ≤ first + n * step = ⊎_elim
          (λ (less : first + n * step < lo). absurd (omega (arith, (low n).1 less, above)))
          (λ (le : lo ≤ first + n * step). le)
          (cases_lt (first + n * step) lo) in
          (omega (arith, at, same, l), omega (arith, below, same, h)),
      λ b.
          let at : (get_or region axis (0, 0)).0 ≤ coordinate_on mask level axis n = b.0 in
          let most : coordinate_on mask level axis n ≤ (get_or region axis (0, 0)).1 = b.1 in
          let above : from ≤ n = ⊎_elim
          (λ (less : n < from). absurd (omega (arith, (low n).0 less, at, same, l)))
          (λ (le : from ≤ n). le)
          (cases_lt n from) in
          (above, (high n).1 (omega (arith, most, same, h))),
    )

-- they differ in the digits that the mask has before the level's
pub span_on : (mask : List ℕ) (region : List (ℕ × ℕ)) (level axis from end left hi : ℕ) → length mask ≤ 40 → from < end → hi ≡ (get_or region axis (0, 0)).1 → hi < 2 ^ bit_count axis mask →
    left + bit_count axis (drop (level - 1) mask) ≡ bit_count axis mask →
    ((n : ℕ) → IsFrom from end n ↔ IsBetween (get_or region axis (0, 0)) (coordinate_on mask level axis n)) → IsSpan from end left
span_on mask region level axis from end left hi few some is small digits numbers =
    let s : ℕ = bit_count axis (drop (level - 1) mask) in
    let last : end - 1 < end = omega arith in
    let from' : from ≤ end - 1 = omega arith in
    let most : coordinate_on mask level axis (end - 1) ≤ (get_or region axis (0, 0)).1 = ((numbers (end - 1)).0 (from', last)).1 in
    let whole : 2 ^ bit_count axis mask ≡ 2 ^ left * 2 ^ s = ap (λ n. 2 ^ n) (sym digits) ∙ pow-add 2 left s in
    let product : (end - 1) * 2 ^ s < 2 ^ left * 2 ^ s = omega (arith, most, is, small, whole) in
    let below : end - 1 < 2 ^ left = ⊎_elim
    (λ (less : end - 1 < 2 ^ left). less)
    (λ (le : 2 ^ left ≤ end - 1). absurd (omega (arith, mul-le-mul_right (2 ^ s) le, product)))
    (cases_lt (end - 1) (2 ^ left)) in
    let le : left ≤ 40 = omega (arith, bit_count-le axis mask, digits) in
    let power : 2 ^ left ≤ 2 ^ 40 = pow_mono le in
    let one : 1 * 2 ^ left ≤ (from / 2 ^ left + 1) * 2 ^ left = mul-le-mul_right (2 ^ left) (omega arith) in
    record { some = some; whole = omega (arith, below, one); few = le; small = omega (arith, below, power) }

-- ---- all axes

-- an axis more
pub axes_more : (mask : List ℕ) (region : List (ℕ × ℕ)) (level : ℕ) (part more : Part) (axis first end left : ℕ) → axis < length part.first → axis < length part.end → axis < length part.left →
    more.first ≡ set part.first axis first → more.end ≡ set part.end axis end → more.left ≡ set part.left axis left →
    IsOn mask region level axis first end left →
    ((a : ℕ) → a < axis → IsOn mask region level a (get_or part.first a 0) (get_or part.end a 0) (get_or part.left a 0)) →
    (a : ℕ) → a < axis + 1 → IsOn mask region level a (get_or more.first a 0) (get_or more.end a 0) (get_or more.left a 0)
axes_more mask region level part more axis first end left f e l firsts ends lefts here before a within = ⊎_elim
    (λ (same : a ≡ axis). subst (λ (x : ℕ). IsOn mask region level x (get_or more.first x 0) (get_or more.end x 0) (get_or more.left x 0)) (sym same)
    (moved axis first end left
    (ap (λ (xs : List ℕ). get_or xs axis 0) firsts ∙ get_or-set_same part.first axis first 0 f)
    (ap (λ (xs : List ℕ). get_or xs axis 0) ends ∙ get_or-set_same part.end axis end 0 e)
    (ap (λ (xs : List ℕ). get_or xs axis 0) lefts ∙ get_or-set_same part.left axis left 0 l) here))
    (λ (other : a ≢ axis).
    let less : a < axis = omega (arith, within, other) in
    moved a (get_or part.first a 0) (get_or part.end a 0) (get_or part.left a 0)
    (ap (λ (xs : List ℕ). get_or xs a 0) firsts ∙ get_or-set_other part.first axis a first 0 other)
    (ap (λ (xs : List ℕ). get_or xs a 0) ends ∙ get_or-set_other part.end axis a end 0 other)
    (ap (λ (xs : List ℕ). get_or xs a 0) lefts ∙ get_or-set_other part.left axis a left 0 other) (before a less))
    (cases_eq a axis)
  where
    moved : (b x y z : ℕ) → get_or more.first b 0 ≡ x → get_or more.end b 0 ≡ y → get_or more.left b 0 ≡ z → IsOn mask region level b x y z →
        IsOn mask region level b (get_or more.first b 0) (get_or more.end b 0) (get_or more.left b 0)
    moved b x y z p q r on = subst (λ (u : ℕ). IsOn mask region level b u (get_or more.end b 0) (get_or more.left b 0)) (sym p) (subst (λ (u : ℕ). IsOn mask region level b x u (get_or more.left b 0)) (sym q) (subst (λ (u : ℕ). IsOn mask region level b x y u) (sym r) on))

-- where all axes are known the part is
pub all_axes : (mask : List ℕ) (region : List (ℕ × ℕ)) (level : ℕ) (part : Part) → ((a : ℕ) → a < length region → IsOn mask region level a (get_or part.first a 0) (get_or part.end a 0) (get_or part.left a 0)) →
    IsPart mask region level 0 1 part
all_axes mask region level part on = record {
  numbers = λ ns size. (
    λ begins a within.
        let inside : a < length region = omega (arith, within, size) in
        ((on a inside).numbers (get_or ns a 0)).1
        (subst (λ (x : ℕ). IsBetween (get_or region a (0, 0)) x) (get_or-point_on mask level ns a within) (LiesIn-at_axis region (point_on mask level ns) begins.inside a inside)),
    λ h.
        let none : z_address mask (point_on mask level ns) / 2 ^ (length mask - 0) ≡ 0 =
        ap (λ n. z_address mask (point_on mask level ns) / 2 ^ n) (omega arith) ∙ div-eq_of_lt (z_address-lt mask (point_on mask level ns)) in
        record {
          inside = LiesIn-from_axes region (point_on mask level ns) (length-point_on mask level ns ∙ size)
              (λ a inside.
              let within : a < length ns = omega (arith, inside, size) in
              subst (λ (x : ℕ). IsBetween (get_or region a (0, 0)) x) (sym (get_or-point_on mask level ns a within)) (((on a inside).numbers (get_or ns a 0)).0 (h a within)));
          front = omega (arith, none);
        },
  );
  spans = λ a inside. (on a inside).span;
  left = λ a inside. (on a inside).digits;
}

-- and where an axis has no number there is no point
pub no_point : (mask : List ℕ) (region : List (ℕ × ℕ)) (level axis from end : ℕ) → axis < length region → end ≤ from →
    ((n : ℕ) → IsFrom from end n ↔ IsBetween (get_or region axis (0, 0)) (coordinate_on mask level axis n)) →
    (ns : List ℕ) → length ns ≡ length region → Begins mask region level 0 1 ns → ⊥
no_point mask region level axis from end inside none numbers ns size begins =
    let within : axis < length ns = omega (arith, inside, size) in
    let is = (numbers (get_or ns axis 0)).1
    (subst (λ (x : ℕ). IsBetween (get_or region axis (0, 0)) x) (get_or-point_on mask level ns axis within) (LiesIn-at_axis region (point_on mask level ns) begins.inside axis inside)) in
    let low : from ≤ get_or ns axis 0 = is.0 in
    let high : get_or ns axis 0 < end = is.1 in
    omega arith

-- ---- the first coordinate

pub first_digit : (mask : List ℕ) (level axis behind : ℕ) → 1 ≤ level → level ≤ length mask → length mask ≤ 40 → get_or mask (level - 1) 0 ≡ axis → behind ≡ bit_count axis (drop (level - 1) mask) →
    (behind - 1 < 64) × (1 * 2 ^ (behind - 1) % 2 ^ 64 ≡ first_on mask level axis)
first_digit mask level axis behind some deepest few same is =
    let next : suc (level - 1) ≡ level = omega arith in
    let more : bit_count axis (drop (level - 1) mask) ≡ suc (bit_count axis (drop (suc (level - 1)) mask)) = stride_of_digit mask (level - 1) axis (omega arith) same in
    let count : behind - 1 ≡ bit_count axis (drop level mask) = omega (arith, is, more, ap (λ n. bit_count axis (drop n mask)) next) in
    let le : behind - 1 ≤ 40 = omega (arith, count, bit_count-le axis (drop level mask), length-drop level mask) in
    let power : 2 ^ (behind - 1) ≤ 2 ^ 40 = pow_mono le in (
      omega arith,
      ap (λ k. k % 2 ^ 64) (one-mul (2 ^ (behind - 1))) ∙ mod-eq_of_lt (omega (arith, power)) ∙ ap (λ n. 2 ^ n) count ∙ sym (first_on-digit mask level axis some same),
    )

-- ---- an axis of a region

-- the digits from the level's own on are few, and the first coordinate is below the step
pub step_on : (mask : List ℕ) (level axis first behind : ℕ) → length mask ≤ 40 → 1 ≤ level → level ≤ length mask → first ≡ first_on mask level axis → behind ≡ bit_count axis (drop (level - 1) mask) →
    (behind ≤ 40) × (first < 2 ^ behind)
step_on mask level axis first behind few some deepest f is =
    let le : behind ≤ 40 = omega (arith, is, bit_count-le axis (drop (level - 1) mask), length-drop (level - 1) mask) in
    (le, omega (arith, f, ap (λ n. 2 ^ n) is, first_below mask level axis some deepest))

pub numbers_between : (mask : List ℕ) (region : List (ℕ × ℕ)) (level axis first behind from end lo hi : ℕ) (los his : List ℕ) → axis < length region →
    first ≡ first_on mask level axis → behind ≡ bit_count axis (drop (level - 1) mask) → los ≡ lower_ends region → his ≡ upper_ends region → lo ≡ get_or los axis 0 → hi ≡ get_or his axis 0 →
    ((n : ℕ) → (n < from) ↔ (first + n * 2 ^ behind < lo)) → ((n : ℕ) → (n < end) ↔ (first + n * 2 ^ behind < hi + 1)) →
    (n : ℕ) → IsFrom from end n ↔ IsBetween (get_or region axis (0, 0)) (coordinate_on mask level axis n)
numbers_between mask region level axis first behind from end lo hi los his inside f b ls hs l h low high =
    numbers_on mask region level axis first (2 ^ behind) from end lo hi f (ap (λ n. 2 ^ n) b) (lower_at region los axis lo inside ls l) (upper_at region his axis hi inside hs h) low high

-- on an axis with numbers
pub is_on : (mask : List ℕ) (region : List (ℕ × ℕ)) (level axis from end hi digits behind : ℕ) (his : List ℕ) → length mask ≤ 40 → HasAddress mask (upper_ends region) → axis < length region →
    his ≡ upper_ends region → hi ≡ get_or his axis 0 → from < end → digits ≡ bit_count axis (drop 0 mask) → behind ≡ bit_count axis (drop (level - 1) mask) →
    ((n : ℕ) → IsFrom from end n ↔ IsBetween (get_or region axis (0, 0)) (coordinate_on mask level axis n)) → IsOn mask region level axis from end (digits - behind)
is_on mask region level axis from end hi digits behind his few address inside hs h some d b numbers =
    let there : axis < length (upper_ends region) = omega (arith, inside, length-map region (λ (c : ℕ × ℕ). c.1)) in
    let small : get_or (upper_ends region) axis 0 < 2 ^ bit_count axis mask = address.below axis there in
    let fewer : bit_count axis (drop (level - 1) mask) ≤ bit_count axis (drop 0 mask) = fewer_behind mask axis 0 (level - 1) (omega arith) in
    let left : digits - behind + bit_count axis (drop (level - 1) mask) ≡ bit_count axis mask = omega (arith, d, b, fewer) in
    record {
      span = span_on mask region level axis from end (digits - behind) hi few some (upper_at region his axis hi inside hs h) (omega (arith, h, ap (λ (xs : List ℕ). get_or xs axis 0) hs, small)) left numbers;
      numbers = numbers;
      digits = left;
    }
