-- The points of a window of a mask's digits: Z addresses whose digits outside the window are given.
use Rattle.std.proofs.Common.{◌≡◌, ◌≢◌, ℕ, ◌+◌, ◌-◌, ◌*◌, ◌^◌, ◌<◌, ◌≤◌, Bool, true, List, [], ◌∷◌, ◌++◌, length, get_or, take, sym, ap, ◌∙◌, ⊎_elim, arith, length-append}
use Rattle.std.specs.Prelude.{filter}
use Rattle.std.specs.Int.{bit_at}
use Rattle.std.proofs.Math.Nat.{mul_assoc}
use Rattle.std.proofs.lemmas.Bool.{cases_eq, cases_lt}
use Rattle.std.proofs.lemmas.Nat.{pow_pos, pow-add, mul-add-lt}
use Rattle.std.proofs.lemmas.Nat.Bits.{bit_at_cat_high}
use Rattle.std.proofs.lemmas.List.FromFn.{length-map-range_with_len, get_or-map-range_with_len}
use Rattle.std.proofs.lemmas.Option.{get_or_from_slice_get}
use Rattle.idx_geom.specs.Region.{LiesIn, points, place_of, point_of}
use Rattle.idx_geom.proofs.LiesInLemmas.{LiesIn-from_axes, LiesIn-at_axis, length_from_LiesIn}
use Rattle.idx_geom.proofs.PointsLemmas.{size, length-points, slice_get-points, LiesIn-point_of, place_of-point_of, place_of-lt, point_of-place_of}
use Rattle.idx_hz.specs.Mask.{bit_count, NamesAxes, HasAddress}
use Rattle.idx_hz.specs.Address.{z_address}
use Rattle.idx_hz.specs.Coordinate.{coordinate_at, point_at}
use Rattle.idx_hz.proofs.ZLemmas.{bit_count-append, coordinate_at-same, coordinate_at-other, coordinate_at-lt, coordinate_at-high, length-point_at, HasAddress-point_at, z_address-point_at, point_at-z_address, z_address-lt}
use Rattle.idx_rowmajor.specs.RowPlace.{axis_bounds, size_box}
use Rattle.idx_rowmajor.specs.Digits.{rank_of_digits}
use Rattle.idx_rowmajor.proofs.CountLemmas.{length-filter_take, AreMembers, count_below-members}
use Rattle.idx_rowmajor.proofs.PlaceLemmas.{place_by, place_of-by, AreScaled, rising_places, size-size_box}

-- ---- the box of a mask's size

length-size_box : (mask : List ℕ) (axes : ℕ) → length (size_box mask axes) ≡ axes
length-size_box mask axes = length-map-range_with_len (λ axis. axis_bounds mask axis) 0 axes

get_or-size_box : (mask : List ℕ) (axes axis : ℕ) → axis < axes → get_or (size_box mask axes) axis (0, 0) ≡ axis_bounds mask axis
get_or-size_box mask axes axis within = get_or-map-range_with_len (λ a. axis_bounds mask a) 0 axes axis axis (0, 0) within (omega arith)

-- a point below the mask's size lies there
pub LiesIn-size_box : (mask : List ℕ) (axes : ℕ) (p : List ℕ) → length p ≡ axes → HasAddress mask p → LiesIn (size_box mask axes) p
LiesIn-size_box mask axes p len has =
    LiesIn-from_axes (size_box mask axes) p (len ∙ sym (length-size_box mask axes))
    (λ axis within.
    let inside : axis < axes = omega (arith, length-size_box mask axes) in
    let below : get_or p axis 0 < 2 ^ bit_count axis mask = has.below axis (omega arith) in
    rw (get_or-size_box mask axes axis inside) (omega arith, omega arith))

-- and what lies there is such a point
pub HasAddress-from_LiesIn : (mask : List ℕ) (axes : ℕ) (p : List ℕ) → NamesAxes mask axes → LiesIn (size_box mask axes) p → (length p ≡ axes) × HasAddress mask p
HasAddress-from_LiesIn mask axes p named lies =
    let len : length p ≡ axes = length_from_LiesIn (size_box mask axes) p lies ∙ length-size_box mask axes in (
      len,
      record {
        named = rw len named;
        below = λ axis within.
            let inside : axis < axes = omega arith in
            let between = LiesIn-at_axis (size_box mask axes) p lies axis (omega (arith, length-size_box mask axes)) in
            let upper : get_or p axis 0 ≤ 2 ^ bit_count axis mask - 1 = (rw (get_or-size_box mask axes axis inside) at between).1 in
            omega (arith, pow_pos (bit_count axis mask));
      },
    )

-- ---- the coordinates at an address, in parts

-- the digits in front and those behind give a coordinate each its part
pub coordinate_at-cat : (front back : List ℕ) (axis a f : ℕ) → f < 2 ^ length back → coordinate_at (front ++ back) axis (a * 2 ^ length back + f) ≡ coordinate_at front axis a * 2 ^ bit_count axis back + coordinate_at back axis f
coordinate_at-cat [] back axis a f small = omega (arith, coordinate_at-high back axis a (length back) f (omega arith))
coordinate_at-cat (d ∷ finer) back axis a f small =
    let z : ℕ = a * 2 ^ length back + f in
    let rest : coordinate_at (finer ++ back) axis z ≡ coordinate_at finer axis a * 2 ^ bit_count axis back + coordinate_at back axis f = coordinate_at-cat finer back axis a f small in
    ⊎_elim
    (λ (same : d ≡ axis).
    let places : length (finer ++ back) ≡ length finer + length back = length-append finer back in
    let less : length finer + length back - length back ≡ length finer = omega arith in
    let bit : bit_at z (length (finer ++ back)) ≡ bit_at a (length finer) = ap (bit_at z) places ∙ bit_at_cat_high a (length back) f (length finer + length back) small (omega arith) ∙ ap (bit_at a) less in
    let power : 2 ^ bit_count axis (finer ++ back) ≡ 2 ^ bit_count axis finer * 2 ^ bit_count axis back = ap (λ n. 2 ^ n) (bit_count-append axis finer back) ∙ pow-add 2 (bit_count axis finer) (bit_count axis back) in
    let product : bit_at a (length finer) * (2 ^ bit_count axis finer * 2 ^ bit_count axis back) ≡ bit_at a (length finer) * 2 ^ bit_count axis finer * 2 ^ bit_count axis back = sym (mul_assoc (bit_at a (length finer)) (2 ^ bit_count axis finer) (2 ^ bit_count axis back)) in
    coordinate_at-same d axis (finer ++ back) z same
    ∙ ap (λ b. b * 2 ^ bit_count axis (finer ++ back) + coordinate_at (finer ++ back) axis z) bit
    ∙ ap (λ m. bit_at a (length finer) * m + coordinate_at (finer ++ back) axis z) power
    ∙ ap (λ m. m + coordinate_at (finer ++ back) axis z) product
    ∙ ap (λ m. bit_at a (length finer) * 2 ^ bit_count axis finer * 2 ^ bit_count axis back + m) rest
    ∙ omega arith
    ∙ ap (λ m. m * 2 ^ bit_count axis back + coordinate_at back axis f) (sym (coordinate_at-same d axis finer a same)))
    (λ (other : d ≢ axis).
    coordinate_at-other d axis (finer ++ back) z other ∙ rest
    ∙ ap (λ m. m * 2 ^ bit_count axis back + coordinate_at back axis f) (sym (coordinate_at-other d axis finer a other)))
    (cases_eq d axis)

-- ---- the window

-- the Z address whose digits in the window are those of t
abbrev pub within_window : ℕ → ℕ → ℕ → ℕ → ℕ → ℕ
within_window window behind a e t = a * 2 ^ (window + behind) + (t * 2 ^ behind + e)

-- the points of a test are those whose Z address has these digits outside the window
pub record IsWindow (test : List ℕ → Bool) (mask : List ℕ) (axes : ℕ) (window : ℕ) (z : ℕ → ℕ) : Type 0 where
  pub in_test : (p : List ℕ) (t : ℕ) → t < 2 ^ window → HasAddress mask p → length p ≡ axes → z_address mask p ≡ z t → test p ≡ true
  pub in_window : (p : List ℕ) → HasAddress mask p → length p ≡ axes → test p ≡ true → (t : ℕ) × (t < 2 ^ window) × (z_address mask p ≡ z t)

-- a mask in three parts, and the digits of an address in the first and in the last
pub record IsSplit (mask front digits behind : List ℕ) (axes a e : ℕ) : Type 0 where
  pub is : mask ≡ front ++ (digits ++ behind)
  pub named : NamesAxes mask axes
  pub named_digits : NamesAxes digits axes
  pub small_a : a < 2 ^ length front
  pub small_e : e < 2 ^ length behind

-- ---- the rank in the window is one to one

abbrev pub unrank : List ℕ → ℕ → ℕ → ℕ
unrank digits axes j = z_address digits (point_of (size_box digits axes) j)

LiesIn-point_at : (digits : List ℕ) (axes t : ℕ) → NamesAxes digits axes → LiesIn (size_box digits axes) (point_at digits axes t)
LiesIn-point_at digits axes t named = LiesIn-size_box digits axes (point_at digits axes t) (length-point_at digits axes t) (HasAddress-point_at digits axes t named)

pub rank_of_digits-lt : (digits : List ℕ) (axes t : ℕ) → NamesAxes digits axes → rank_of_digits digits axes t < 2 ^ length digits
rank_of_digits-lt digits axes t named =
    omega (arith, place_of-lt (size_box digits axes) (point_at digits axes t) (LiesIn-point_at digits axes t named), size-size_box digits axes named)

pub unrank-rank_of_digits : (digits : List ℕ) (axes t : ℕ) → NamesAxes digits axes → t < 2 ^ length digits → unrank digits axes (rank_of_digits digits axes t) ≡ t
unrank-rank_of_digits digits axes t named small =
    ap (z_address digits) (point_of-place_of (size_box digits axes) (point_at digits axes t) (LiesIn-point_at digits axes t named))
    ∙ z_address-point_at digits axes t named small

pub unrank-lt : (digits : List ℕ) (axes j : ℕ) → unrank digits axes j < 2 ^ length digits
unrank-lt digits axes j = z_address-lt digits (point_of (size_box digits axes) j)

pub rank_of_digits-unrank : (digits : List ℕ) (axes j : ℕ) → NamesAxes digits axes → j < 2 ^ length digits → rank_of_digits digits axes (unrank digits axes j) ≡ j
rank_of_digits-unrank digits axes j named small =
    let inside : j < size (size_box digits axes) = omega (arith, size-size_box digits axes named) in
    let found = HasAddress-from_LiesIn digits axes (point_of (size_box digits axes) j) named (LiesIn-point_of (size_box digits axes) j inside) in
    let point : point_at digits axes (unrank digits axes j) ≡ point_of (size_box digits axes) j =
    ap (λ n. point_at digits n (unrank digits axes j)) (sym found.0) ∙ point_at-z_address digits (point_of (size_box digits axes) j) found.1 in
    ap (place_of (size_box digits axes)) point ∙ place_of-point_of (size_box digits axes) j inside

-- ---- points of the window

-- what a coordinate has at an address of the window
coordinate_at-window : (mask front digits behind : List ℕ) (axes a e axis t : ℕ) → IsSplit mask front digits behind axes a e → t < 2 ^ length digits → coordinate_at mask axis (within_window (length digits) (length behind) a e t) ≡ coordinate_at front axis a * 2 ^ bit_count axis (digits ++ behind) + coordinate_at behind axis e + coordinate_at digits axis t * 2 ^ bit_count axis behind
coordinate_at-window mask front digits behind axes a e axis t split small =
    let back : ℕ = t * 2 ^ length behind + e in
    let places : length (digits ++ behind) ≡ length digits + length behind = length-append digits behind in
    let power : 2 ^ length (digits ++ behind) ≡ 2 ^ length behind * 2 ^ length digits = ap (λ n. 2 ^ n) (places ∙ omega arith) ∙ pow-add 2 (length behind) (length digits) in
    let below : back < 2 ^ length behind * 2 ^ length digits = mul-add-lt t (2 ^ length behind) e (2 ^ length digits) small split.small_e in
    ap (λ m. coordinate_at m axis (within_window (length digits) (length behind) a e t)) split.is
    ∙ ap (λ n. coordinate_at (front ++ (digits ++ behind)) axis (a * 2 ^ n + back)) (sym places)
    ∙ coordinate_at-cat front (digits ++ behind) axis a back (omega arith)
    ∙ ap (λ m. coordinate_at front axis a * 2 ^ bit_count axis (digits ++ behind) + m) (coordinate_at-cat digits behind axis t e split.small_e)
    ∙ omega arith

-- an address of the window is one of the mask
pub within_window-lt : (mask front digits behind : List ℕ) (axes a e t : ℕ) → IsSplit mask front digits behind axes a e → t < 2 ^ length digits → within_window (length digits) (length behind) a e t < 2 ^ length mask
within_window-lt mask front digits behind axes a e t split small =
    let back : ℕ = t * 2 ^ length behind + e in
    let places : length mask ≡ length digits + length behind + length front = ap length split.is ∙ length-append front (digits ++ behind) ∙ omega (arith, length-append digits behind) in
    let power : 2 ^ (length digits + length behind) ≡ 2 ^ length behind * 2 ^ length digits = ap (λ n. 2 ^ n) (omega arith) ∙ pow-add 2 (length behind) (length digits) in
    let whole : 2 ^ length mask ≡ 2 ^ (length digits + length behind) * 2 ^ length front = ap (λ n. 2 ^ n) places ∙ pow-add 2 (length digits + length behind) (length front) in
    let below : back < 2 ^ length behind * 2 ^ length digits = mul-add-lt t (2 ^ length behind) e (2 ^ length digits) small split.small_e in
    let all : a * 2 ^ (length digits + length behind) + back < 2 ^ (length digits + length behind) * 2 ^ length front = mul-add-lt a (2 ^ (length digits + length behind)) back (2 ^ length front) split.small_a (omega arith) in
    omega arith

AreScaled-window : (mask front digits behind : List ℕ) (axes a e t : ℕ) → IsSplit mask front digits behind axes a e → t < 2 ^ length digits → AreScaled (λ axis. bit_count axis digits) (λ axis. bit_count axis mask) (λ axis. coordinate_at front axis a * 2 ^ bit_count axis (digits ++ behind) + coordinate_at behind axis e) (λ axis. 2 ^ bit_count axis behind) (λ axis. coordinate_at digits axis t) (λ axis. coordinate_at mask axis (within_window (length digits) (length behind) a e t))
AreScaled-window mask front digits behind axes a e t split small = record {
  small = λ axis. coordinate_at-lt digits axis t;
  large = λ axis. coordinate_at-lt mask axis (within_window (length digits) (length behind) a e t);
  some = λ axis. pow_pos (bit_count axis behind);
  is = λ axis. coordinate_at-window mask front digits behind axes a e axis t split small;
}

-- the place of the window's point
abbrev pub place_in_window : List ℕ → List ℕ → List ℕ → ℕ → ℕ → ℕ → ℕ → ℕ
place_in_window mask digits behind axes a e t = place_of (size_box mask axes) (point_at mask axes (within_window (length digits) (length behind) a e t))

-- it rises with the rank
rising_window : (mask front digits behind : List ℕ) (axes a e t t' : ℕ) → IsSplit mask front digits behind axes a e → t < 2 ^ length digits → t' < 2 ^ length digits → rank_of_digits digits axes t < rank_of_digits digits axes t' → place_in_window mask digits behind axes a e t < place_in_window mask digits behind axes a e t'
rising_window mask front digits behind axes a e t t' split small small' less =
    let f : ℕ → ℕ = λ axis. bit_count axis digits in
    let g : ℕ → ℕ = λ axis. bit_count axis mask in
    let y : ℕ → ℕ = λ axis. coordinate_at digits axis t in
    let y' : ℕ → ℕ = λ axis. coordinate_at digits axis t' in
    let x : ℕ → ℕ = λ axis. coordinate_at mask axis (within_window (length digits) (length behind) a e t) in
    let x' : ℕ → ℕ = λ axis. coordinate_at mask axis (within_window (length digits) (length behind) a e t') in
    let ranks : place_by f y 0 axes < place_by f y' 0 axes = omega (arith, place_of-by f y 0 axes, place_of-by f y' 0 axes) in
    let places : place_by g x 0 axes < place_by g x' 0 axes =
    rising_places f g (λ axis. coordinate_at front axis a * 2 ^ bit_count axis (digits ++ behind) + coordinate_at behind axis e) (λ axis. 2 ^ bit_count axis behind) y y' x x'
    (AreScaled-window mask front digits behind axes a e t split small) (AreScaled-window mask front digits behind axes a e t' split small') 0 axes ranks in
    omega (arith, place_of-by g x 0 axes, place_of-by g x' 0 axes)

-- ---- the points before one of the window

-- the window's points are the members of its test, in the order of their ranks
AreMembers-window : (test : List ℕ → Bool) (mask front digits behind : List ℕ) (axes a e : ℕ) → IsSplit mask front digits behind axes a e → IsWindow test mask axes (length digits) (within_window (length digits) (length behind) a e) → AreMembers (λ n. test (get_or (points (size_box mask axes)) n [])) (λ j. place_in_window mask digits behind axes a e (unrank digits axes j)) (2 ^ length digits) (size (size_box mask axes))
AreMembers-window test mask front digits behind axes a e split window =
    let box : List (ℕ × ℕ) = size_box mask axes in
    let z : ℕ → ℕ = within_window (length digits) (length behind) a e in
    let at : (n : ℕ) → n < size box → get_or (points box) n [] ≡ point_of box n = λ n within. get_or_from_slice_get (points box) n (point_of box n) [] (slice_get-points box n within) in
    let lies : (t : ℕ) → LiesIn box (point_at mask axes (z t)) = λ t. LiesIn-point_at mask axes (z t) split.named in
    record {
      hit = λ j within.
          let t : ℕ = unrank digits axes j in
          let small : t < 2 ^ length digits = unrank-lt digits axes j in
          let point : get_or (points box) (place_of box (point_at mask axes (z t))) [] ≡ point_at mask axes (z t) =
          at (place_of box (point_at mask axes (z t))) (place_of-lt box (point_at mask axes (z t)) (lies t)) ∙ point_of-place_of box (point_at mask axes (z t)) (lies t) in
          ap test point ∙ window.in_test (point_at mask axes (z t)) t small (HasAddress-point_at mask axes (z t) split.named) (length-point_at mask axes (z t))
          (z_address-point_at mask axes (z t) split.named (within_window-lt mask front digits behind axes a e t split small));
      only = λ n within yes.
          let p : List ℕ = point_of box n in
          let found = HasAddress-from_LiesIn mask axes p split.named (LiesIn-point_of box n within) in
          let one = window.in_window p found.1 found.0 (sym (ap test (at n within)) ∙ yes) in
          let back : unrank digits axes (rank_of_digits digits axes one.0) ≡ one.0 = unrank-rank_of_digits digits axes one.0 split.named_digits one.1 in
          let point : point_at mask axes (z one.0) ≡ p = ap (point_at mask axes) (sym one.2) ∙ ap (λ k. point_at mask k (z_address mask p)) (sym found.0) ∙ point_at-z_address mask p found.1 in (
            rank_of_digits digits axes one.0,
            rank_of_digits-lt digits axes one.0 split.named_digits,
            sym (place_of-point_of box n within) ∙ ap (place_of box) (sym point) ∙ ap (λ t. place_in_window mask digits behind axes a e t) (sym back),
          );
      rising = λ i j less within.
          let of_i : rank_of_digits digits axes (unrank digits axes i) ≡ i = rank_of_digits-unrank digits axes i split.named_digits (omega arith) in
          let of_j : rank_of_digits digits axes (unrank digits axes j) ≡ j = rank_of_digits-unrank digits axes j split.named_digits within in
          rising_window mask front digits behind axes a e (unrank digits axes i) (unrank digits axes j) split (unrank-lt digits axes i) (unrank-lt digits axes j) (omega arith);
    }

-- so many of the test's points come before the window's point of t: its rank in the window
pub count-window : (test : List ℕ → Bool) (mask front digits behind : List ℕ) (axes a e : ℕ) → IsSplit mask front digits behind axes a e → IsWindow test mask axes (length digits) (within_window (length digits) (length behind) a e) → (p : List ℕ) (t : ℕ) → t < 2 ^ length digits → length p ≡ axes → HasAddress mask p → z_address mask p ≡ within_window (length digits) (length behind) a e t → length (filter test (take (place_of (size_box mask axes) p) (points (size_box mask axes)))) ≡ rank_of_digits digits axes t
count-window test mask front digits behind axes a e split window p t small len has address =
    let box : List (ℕ × ℕ) = size_box mask axes in
    let z : ℕ → ℕ = within_window (length digits) (length behind) a e in
    let m : ℕ → ℕ = λ j. place_in_window mask digits behind axes a e (unrank digits axes j) in
    let test_at : ℕ → Bool = λ n. test (get_or (points box) n []) in
    let members : AreMembers test_at m (2 ^ length digits) (size box) = AreMembers-window test mask front digits behind axes a e split window in
    let point : point_at mask axes (z t) ≡ p = ap (point_at mask axes) (sym address) ∙ ap (λ k. point_at mask k (z_address mask p)) (sym len) ∙ point_at-z_address mask p has in
    let rank : ℕ = rank_of_digits digits axes t in
    let few : rank < 2 ^ length digits = rank_of_digits-lt digits axes t split.named_digits in
    let place : place_of box p ≡ m rank = ap (place_of box) (sym point) ∙ ap (λ k. place_in_window mask digits behind axes a e k) (sym (unrank-rank_of_digits digits axes t split.named_digits small)) in
    let inside : place_of box p < size box = place_of-lt box p (LiesIn-size_box mask axes p len has) in
    length-filter_take test (points box) [] (place_of box p) (omega (arith, length-points box))
    ∙ count_below-members test_at m (2 ^ length digits) (size box) members (place_of box p) rank (omega arith) (omega arith)
    (λ i less. let up : m i < m rank = members.rising i rank less few in omega arith)
    (λ i from within. ⊎_elim
    (λ (less : rank < i). let up : m rank < m i = members.rising rank i less within in omega arith)
    (λ (most : i ≤ rank). let same : rank ≡ i = omega arith in omega (arith, ap m same))
    (cases_lt rank i))
