-- A region's points by their numbers, and where they stand in a box that holds the region.
use Rattle.std.proofs.Common.{◌≡◌, ℕ, zero, suc, ◌+◌, ◌-◌, ◌*◌, ◌/◌, ◌%◌, ◌<◌, ◌≤◌, List, [], ◌∷◌, length, get_or, Some, inl, inr, refl, sym, ap, ◌∙◌, arith}
use Rattle.std.specs.List.{slice_get}
use Rattle.std.proofs.lemmas.Bool.{cases_lt}
use Rattle.std.proofs.lemmas.Option.{slice_get_within, same_Some}
use Rattle.std.proofs.lemmas.Nat.{div-add-mod', div-mul-add, mod-mul-add, div_below}
use Rattle.std.proofs.Math.Nat.{mul_comm, mul-le-mul_right, mul-le-mul_left, mod-lt}
use Rattle.idx_geom.specs.Region.{LiesIn, extent, lower_ends, place_of, point_of, points, upper_ends}
use Rattle.idx_geom.proofs.PointsLemmas.{size, length-points, slice_get-points, LiesIn-point_of, place_of-lt, positive_extent}
use Rattle.idx_geom.proofs.LiesInLemmas.{LiesIn-lower_ends, LiesIn-upper_ends, LiesIn-at_axis, length_from_LiesIn}
use Rattle.idx_pieces.specs.Cursor.{place_at, coordinate, bounds_at, IsPart}

-- the quotient and the remainder of a number so many on, within one row, and at the start of the next one
pub in_row : (w k n : ℕ) → k % w + n < w → ((k + n) / w ≡ k / w) × ((k + n) % w ≡ k % w + n)
in_row w k n h =
    let is : k + n ≡ k / w * w + (k % w + n) = omega (arith, div-add-mod' k w) in
    (ap (λ t. t / w) is ∙ div-mul-add (k / w) w (k % w + n) h, ap (λ t. t % w) is ∙ mod-mul-add (k / w) w (k % w + n) h)

pub next_row : (w k n : ℕ) → 0 < w → k % w + n ≡ w → ((k + n) / w ≡ k / w + 1) × ((k + n) % w ≡ 0)
next_row w k n some h =
    let is : k + n ≡ (k / w + 1) * w + 0 = omega (arith, div-add-mod' k w) in
    (ap (λ t. t / w) is ∙ div-mul-add (k / w + 1) w 0 some, ap (λ t. t % w) is ∙ mod-mul-add (k / w + 1) w 0 some)

-- the point of a number, where it is found
pub point-found : (region : List (ℕ × ℕ)) (k : ℕ) (p : List ℕ) → slice_get (points region) k ≡ Some p → p ≡ point_of region k
point-found region k p h =
    let inside : k < size region = omega (arith, slice_get_within (points region) k p h, length-points region) in
    same_Some p (point_of region k) (sym h ∙ slice_get-points region k inside)

-- where a point of the region lies on an axis, as its bounds tell
pub on_axis : (region : List (ℕ × ℕ)) (k axis : ℕ) → k < length (points region) → axis < length region →
    ((bounds_at region axis).0 ≤ coordinate region k axis) × (coordinate region k axis ≤ (bounds_at region axis).1)
on_axis region k axis within inside =
    LiesIn-at_axis region (point_of region k) (LiesIn-point_of region k (omega (arith, within, length-points region))) axis inside

ends_at : (bs : List (ℕ × ℕ)) (axis : ℕ) → axis < length bs → (get_or (lower_ends bs) axis 0 ≡ (get_or bs axis (0, 0)).0) × (get_or (upper_ends bs) axis 0 ≡ (get_or bs axis (0, 0)).1)
ends_at [] axis h = absurd (omega arith)
ends_at (b ∷ bs) zero h = (refl, refl)
ends_at (b ∷ bs) (suc axis) h = ends_at bs axis (omega arith)

-- the axes of a region are those of its box, and so are its bounds
pub same_axes : (box region : List (ℕ × ℕ)) → IsPart box region → length box ≡ length region
same_axes box region h =
    let lower : LiesIn region (lower_ends region) = LiesIn-lower_ends region h.valid.ordered in
    sym (length_from_LiesIn box (lower_ends region) (h.inside _ lower)) ∙ length_from_LiesIn region (lower_ends region) lower

pub within_box : (box region : List (ℕ × ℕ)) (axis : ℕ) → IsPart box region → axis < length region →
    ((bounds_at box axis).0 ≤ (bounds_at region axis).0) × ((bounds_at region axis).1 ≤ (bounds_at box axis).1)
within_box box region axis h lt =
    let lower : LiesIn box (lower_ends region) = h.inside _ (LiesIn-lower_ends region h.valid.ordered) in
    let upper : LiesIn box (upper_ends region) = h.inside _ (LiesIn-upper_ends region h.valid.ordered) in
    let same = same_axes box region h in
    let ends = ends_at region axis lt in
    (omega (arith, (LiesIn-at_axis box _ lower axis (omega arith)).0, ends.0), omega (arith, (LiesIn-at_axis box _ upper axis (omega arith)).1, ends.1))

-- the place of a point is one of the box
pub place-lt : (box region : List (ℕ × ℕ)) (k : ℕ) → IsPart box region → k < length (points region) → place_at box region k < length (points box)
place-lt box region k h lt =
    let lies : LiesIn region (point_of region k) = LiesIn-point_of region k (omega (arith, lt, length-points region)) in
    omega (arith, place_of-lt box (point_of region k) (h.inside _ lies), length-points box)

-- so many numbers on, up to the end of the row
room : (w k n rest : ℕ) → 0 < w → k < w * rest → k % w + n ≤ w → k + n ≤ w * rest
room w k n rest some lt le =
    let q : k / w < rest = div_below k w rest some (omega (arith, mul_comm w rest)) in
    let rows : (k / w + 1) * w ≤ rest * w = mul-le-mul_right w (let more : k / w + 1 ≤ rest = omega arith in more) in
    omega (arith, div-add-mod' k w, mul_comm w rest)

-- a point so many on in its row
place-on : (b c : ℕ × ℕ) (ds bs : List (ℕ × ℕ)) (k n : ℕ) → b.0 ≤ c.0 + k % extent c → k % extent c + n < extent c →
    place_at (b ∷ ds) (c ∷ bs) (k + n) ≡ place_at (b ∷ ds) (c ∷ bs) k + n
place-on b c ds bs k n low lt =
    let both = in_row (extent c) k n lt in
    let times : extent b * place_of ds (point_of bs ((k + n) / extent c)) ≡ extent b * place_of ds (point_of bs (k / extent c)) =
    ap (λ q. extent b * place_of ds (point_of bs q)) both.0 in
    omega (arith, both.1, times)

-- the first point of the next row
place-next : (b b' c c' : ℕ × ℕ) (ds bs : List (ℕ × ℕ)) (k n gap : ℕ) → b.0 ≤ c.0 → b'.0 ≤ c'.0 → k % extent c + n ≡ extent c → 0 < extent c →
    k / extent c % extent c' + 1 < extent c' → extent c + gap ≡ extent b →
    place_at (b ∷ b' ∷ ds) (c ∷ c' ∷ bs) (k + n) ≡ place_at (b ∷ b' ∷ ds) (c ∷ c' ∷ bs) k + n + gap
place-next b b' c c' ds bs k n gap low low' row some lt gaps =
    let both = next_row (extent c) k n some row in
    let slow = in_row (extent c') (k / extent c) 1 lt in
    let far : ℕ = place_of ds (point_of bs (k / extent c / extent c')) in
    let quotient : (k + n) / extent c / extent c' ≡ k / extent c / extent c' = ap (λ q. q / extent c') both.0 ∙ slow.0 in
    let remainder : (k + n) / extent c % extent c' ≡ k / extent c % extent c' + 1 = ap (λ q. q % extent c') both.0 ∙ slow.1 in
    let y : ℕ = (c'.0 + k / extent c % extent c' - b'.0) + extent b' * far in
    let inner : (c'.0 + (k + n) / extent c % extent c' - b'.0) + extent b' * place_of ds (point_of bs ((k + n) / extent c / extent c')) ≡ y + 1 =
    ap (λ q. (c'.0 + (k + n) / extent c % extent c' - b'.0) + extent b' * place_of ds (point_of bs q)) quotient ∙ omega (arith, remainder) in
    let times : extent b * ((c'.0 + (k + n) / extent c % extent c' - b'.0) + extent b' * place_of ds (point_of bs ((k + n) / extent c / extent c'))) ≡ extent b * (y + 1) =
    ap (λ q. extent b * q) inner in
    let more : extent b * (y + 1) ≡ extent b * y + extent b = omega arith in
    omega (arith, both.1, times, more)

-- what a step in a row finds
pub record InRow (box region : List (ℕ × ℕ)) (k n : ℕ) : Type 0 where
  pub place : place_at box region (k + n) ≡ place_at box region k + n
  pub column : coordinate region (k + n) 0 ≡ coordinate region k 0 + n
  pub row : coordinate region (k + n) 1 ≡ coordinate region k 1
  pub within : k + n < length (points region)

pub row_facts : (box region : List (ℕ × ℕ)) (k n : ℕ) → IsPart box region → k < length (points region) →
    n < (bounds_at region 0).1 + 1 - coordinate region k 0 → InRow box region k n
row_facts box [] k n h lt step = absurd (omega (arith, h.valid.axes.0))
row_facts box (c ∷ []) k n h lt step = absurd (omega (arith, h.valid.axes.0))
row_facts [] (c ∷ c' ∷ bs) k n h lt step = absurd (omega (arith, same_axes [] (c ∷ c' ∷ bs) h))
row_facts (b ∷ ds) (c ∷ c' ∷ bs) k n h lt step =
    let low = within_box (b ∷ ds) (c ∷ c' ∷ bs) 0 h (omega arith) in
    let inside : k < extent c * size (c' ∷ bs) = omega (arith, lt, length-points (c ∷ c' ∷ bs)) in
    let some : 0 < extent c = positive_extent c (c' ∷ bs) k inside in
    let small : k % extent c + n < extent c = omega (arith, step) in
    let both = in_row (extent c) k n small in
    record {
      place = place-on b c ds (c' ∷ bs) k n (omega (arith, low.0)) small;
      column = omega (arith, both.1);
      row = ap (λ q. c'.0 + q % extent c') both.0;
      within = omega (arith, room (extent c) k (n + 1) (size (c' ∷ bs)) some inside (omega arith), length-points (c ∷ c' ∷ bs));
    }

-- what a step to the next row finds
pub record InNext (box region : List (ℕ × ℕ)) (k n gap : ℕ) : Type 0 where
  pub place : place_at box region (k + n) ≡ place_at box region k + n + gap
  pub column : coordinate region (k + n) 0 ≡ (bounds_at region 0).0
  pub row : coordinate region (k + n) 1 ≡ coordinate region k 1 + 1
  pub within : k + n < length (points region)

pub next_facts : (box region : List (ℕ × ℕ)) (k n gap : ℕ) → IsPart box region → k < length (points region) →
    n ≡ (bounds_at region 0).1 + 1 - coordinate region k 0 → coordinate region k 1 < (bounds_at region 1).1 →
    extent (bounds_at region 0) + gap ≡ extent (bounds_at box 0) → InNext box region k n gap
next_facts box [] k n gap h lt step more gaps = absurd (omega (arith, h.valid.axes.0))
next_facts box (c ∷ []) k n gap h lt step more gaps = absurd (omega (arith, h.valid.axes.0))
next_facts [] (c ∷ c' ∷ bs) k n gap h lt step more gaps = absurd (omega (arith, same_axes [] (c ∷ c' ∷ bs) h))
next_facts (b ∷ []) (c ∷ c' ∷ bs) k n gap h lt step more gaps = absurd (omega (arith, same_axes (b ∷ []) (c ∷ c' ∷ bs) h))
next_facts (b ∷ b' ∷ ds) (c ∷ c' ∷ bs) k n gap h lt step more gaps =
    let low = within_box (b ∷ b' ∷ ds) (c ∷ c' ∷ bs) 0 h (omega arith) in
    let low' = within_box (b ∷ b' ∷ ds) (c ∷ c' ∷ bs) 1 h (omega arith) in
    let inside : k < extent c * size (c' ∷ bs) = omega (arith, lt, length-points (c ∷ c' ∷ bs)) in
    let some : 0 < extent c = positive_extent c (c' ∷ bs) k inside in
    let q : k / extent c < size (c' ∷ bs) = div_below k (extent c) (size (c' ∷ bs)) some (omega (arith, mul_comm (size (c' ∷ bs)) (extent c))) in
    let some' : 0 < extent c' = positive_extent c' bs (k / extent c) q in
    let rest : k % extent c < extent c = mod-lt k some in
    let small : k % extent c + n ≡ extent c = omega (arith, step) in
    let slow : k / extent c % extent c' + 1 < extent c' = omega (arith, more) in
    let both = next_row (extent c) k n some small in
    let rows : k / extent c + 2 ≤ extent c' * size bs = room (extent c') (k / extent c) 2 (size bs) some' q (omega arith) in
    let far : (k / extent c + 2) * extent c ≤ extent c' * size bs * extent c = mul-le-mul_right (extent c) rows in
    record {
      place = place-next b b' c c' ds bs k n gap low.0 low'.0 small some slow gaps;
      column = omega (arith, both.1);
      row = ap (λ t. c'.0 + t % extent c') both.0 ∙ omega (arith, (in_row (extent c') (k / extent c) 1 slow).1);
      within = omega (arith, far, div-add-mod' k (extent c), mul_comm (size (c' ∷ bs)) (extent c), length-points (c ∷ c' ∷ bs));
    }

-- up to the end of a row there are samples
pub row_within : (box region : List (ℕ × ℕ)) (k n : ℕ) → IsPart box region → k < length (points region) →
    n ≤ (bounds_at region 0).1 + 1 - coordinate region k 0 → k + n ≤ length (points region)
row_within box [] k n h lt step = absurd (omega (arith, h.valid.axes.0))
row_within box (c ∷ bs) k n h lt step =
    let inside : k < extent c * size bs = omega (arith, lt, length-points (c ∷ bs)) in
    let some : 0 < extent c = positive_extent c bs k inside in
    let rest : k % extent c < extent c = mod-lt k some in
    omega (arith, room (extent c) k n (size bs) some inside (omega (arith, step)), length-points (c ∷ bs))

-- quotients rise with the numbers
div-le : (w k m : ℕ) → 0 < w → k < m → k / w ≤ m / w
div-le w k m some lt =
    elim (cases_lt (m / w) (k / w)) [
      | inl more ↦
          let up : (m / w + 1) * w ≤ k / w * w = mul-le-mul_right w (let one : m / w + 1 ≤ k / w = omega arith in one) in
          absurd (omega (arith, div-add-mod' k w, div-add-mod' m w, mod-lt m some))
      | inr rest ↦ rest
    ]

-- the places of a region's points rise with their numbers
pub places-rise : (box region : List (ℕ × ℕ)) (k m : ℕ) → ((p : List ℕ) → LiesIn region p → LiesIn box p) → k < m → m < size region →
    place_at box region k < place_at box region m
places-rise box [] k m inside lt within = absurd (omega arith)
places-rise [] (c ∷ bs) k m inside lt within = absurd (inside (point_of (c ∷ bs) k) (LiesIn-point_of (c ∷ bs) k (omega arith)))
places-rise (b ∷ ds) (c ∷ bs) k m inside lt within =
    let some : 0 < extent c = positive_extent c bs m within in
    let w : ℕ = extent c in
    let first : LiesIn (b ∷ ds) (point_of (c ∷ bs) k) = inside (point_of (c ∷ bs) k) (LiesIn-point_of (c ∷ bs) k (omega arith)) in
    let second : LiesIn (b ∷ ds) (point_of (c ∷ bs) m) = inside (point_of (c ∷ bs) m) (LiesIn-point_of (c ∷ bs) m within) in
    let rest : m / w < size bs = div_below m w (size bs) some (omega (arith, mul_comm (size bs) w)) in
    let inner : (p : List ℕ) → LiesIn bs p → LiesIn ds p = λ p lies. (inside (c.0 ∷ p) (omega arith, omega arith, lies)).2 in
    elim (cases_lt (k / w) (m / w)) [
      | inl more ↦
          let up : place_at ds bs (k / w) < place_at ds bs (m / w) = places-rise ds bs (k / w) (m / w) inner more rest in
          let times : extent b * (place_at ds bs (k / w) + 1) ≤ extent b * place_at ds bs (m / w) =
          mul-le-mul_left (extent b) (let le : place_at ds bs (k / w) + 1 ≤ place_at ds bs (m / w) = omega arith in le) in
          let more' : extent b * (place_at ds bs (k / w) + 1) ≡ extent b * place_at ds bs (k / w) + extent b = omega arith in
          omega (arith, first.0, first.1, times, more')
      | inr less ↦
          let same : k / w ≡ m / w = omega (arith, div-le w k m some lt, less) in
          let row : k / w * w ≡ m / w * w = ap (λ q. q * w) same in
          let far : extent b * place_at ds bs (k / w) ≡ extent b * place_at ds bs (m / w) = ap (λ q. extent b * place_at ds bs q) same in
          omega (arith, first.0, second.0, div-add-mod' k w, div-add-mod' m w, row, far)
    ]

-- the first point behind a row stands behind it
pub behind_row : (box region : List (ℕ × ℕ)) (k n : ℕ) → IsPart box region → n ≡ (bounds_at region 0).1 + 1 - coordinate region k 0 →
    k < length (points region) → k + n < length (points region) → place_at box region k + n ≤ place_at box region (k + n)
behind_row box region k n h row lt more =
    let column = on_axis region k 0 lt (omega (arith, h.valid.axes.0)) in
    let some : 1 ≤ n = omega (arith, row, column.1) in
    let last : InRow box region k (n - 1) = row_facts box region k (n - 1) h lt (omega arith) in
    let up : place_at box region (k + (n - 1)) < place_at box region (k + n) =
    places-rise box region (k + (n - 1)) (k + n) h.inside (omega arith) (omega (arith, more, length-points region)) in
    omega (arith, up, last.place)
