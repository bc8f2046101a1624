-- How a box is cut among ranks.
use Rattle.std.proofs.Common.{◌≡◌, ◌≢◌, ℕ, zero, suc, ◌+◌, ◌-◌, ◌*◌, ◌/◌, ◌^◌, ◌<◌, ◌≤◌, Bool, true, false, cond, ltb, List, [], ◌∷◌, length, drop, take, set, get_or, refl, sym, ap, ◌∙◌, arith, subst, ⊎_elim}
use Rattle.std.specs.List.{zip}
use Rattle.std.proofs.lemmas.Bool.{cases_eq, cases_lt}
use Rattle.std.proofs.lemmas.List.{drop_more, ext_get_or, get_or-set_same, get_or-set_other, get_or-take, length-map, length-set, length-take-le}
use Rattle.std.proofs.lemmas.List.Elements.{All-cons, All-get_or, All-head, All-set, All-tail}
use Rattle.std.proofs.lemmas.Nat.{le-div, mul-le}
use Rattle.std.proofs.Math.Nat.{div-le_of_le-mul, div-mul-le_self}
use Rattle.idx_geom.specs.Point.{IsAxes, IsPoint}
use Rattle.idx_geom.specs.Region.{AreEnds, IsRegion, extent, lower_ends, points, upper_ends}
use Rattle.idx_geom.proofs.EndsLemmas.{IsOrdered}
use Rattle.idx_geom.proofs.PointsLemmas.{size, length-points}
use Rattle.idx_geom.proofs.RegionSteps.{zip-ends}
use Rattle.idx_grid.proofs.GridLemmas.{lower_at, upper_at}
use Rattle.idx_pieces.specs.Ranks.{bounded_on, cut_axis, longest, rank_bounds, rank_count, rank_region}

lt-true : (a b : ℕ) → a < b → ltb a b ≡ true
lt-true a b h = grind arith

lt-false : (a b : ℕ) → b ≤ a → ltb a b ≡ false
lt-false a b h = grind arith

cut_here : (b : ℕ × ℕ) (bs : List (ℕ × ℕ)) → longest bs < extent b → cut_axis (b ∷ bs) ≡ 0
cut_here b bs h = ap (λ (t : Bool). cond t 0 (suc (cut_axis bs))) (lt-true (longest bs) (extent b) h)

cut_later : (b : ℕ × ℕ) (bs : List (ℕ × ℕ)) → extent b ≤ longest bs → cut_axis (b ∷ bs) ≡ suc (cut_axis bs)
cut_later b bs h = ap (λ (t : Bool). cond t 0 (suc (cut_axis bs))) (lt-false (longest bs) (extent b) h)

longest_here : (b : ℕ × ℕ) (bs : List (ℕ × ℕ)) → longest bs < extent b → longest (b ∷ bs) ≡ extent b
longest_here b bs h = omega arith

longest_later : (b : ℕ × ℕ) (bs : List (ℕ × ℕ)) → extent b ≤ longest bs → longest (b ∷ bs) ≡ longest bs
longest_later b bs h = omega arith

-- the cut of the axes from one on
pub record IsCutFrom (box : List (ℕ × ℕ)) (at axis most : ℕ) : Type 0 where
  pub place : axis ≡ at + cut_axis (drop at box)
  pub extent : most ≡ longest (drop at box)

pub cut_before : (box : List (ℕ × ℕ)) (at next axis most wide : ℕ) → next ≡ at + 1 → at < length box →
    wide ≡ extent (get_or box at (0, 0)) → IsCutFrom box next axis most → most < wide → IsCutFrom box at at wide
cut_before box at next axis most wide step inside is cut less =
    let here : drop at box ≡ get_or box at (0, 0) ∷ drop (at + 1) box = drop_more box at (0, 0) inside in
    let known : most ≡ longest (drop (at + 1) box) = cut.extent ∙ ap (λ (n : ℕ). longest (drop n box)) step in
    let low : longest (drop (at + 1) box) < extent (get_or box at (0, 0)) = omega arith in
    record {
      place = omega (arith, ap cut_axis here ∙ cut_here (get_or box at (0, 0)) (drop (at + 1) box) low);
      extent = is ∙ sym (ap longest here ∙ longest_here (get_or box at (0, 0)) (drop (at + 1) box) low);
    }

pub cut_kept : (box : List (ℕ × ℕ)) (at next axis most wide : ℕ) → next ≡ at + 1 → at < length box →
    wide ≡ extent (get_or box at (0, 0)) → IsCutFrom box next axis most → wide ≤ most → IsCutFrom box at axis most
cut_kept box at next axis most wide step inside is cut less =
    let here : drop at box ≡ get_or box at (0, 0) ∷ drop (at + 1) box = drop_more box at (0, 0) inside in
    let known : most ≡ longest (drop (at + 1) box) = cut.extent ∙ ap (λ (n : ℕ). longest (drop n box)) step in
    let low : extent (get_or box at (0, 0)) ≤ longest (drop (at + 1) box) = omega arith in
    let placed : axis ≡ next + cut_axis (drop (at + 1) box) = cut.place ∙ ap (λ (n : ℕ). next + cut_axis (drop n box)) step in
    record {
      place = omega (arith, placed, ap cut_axis here ∙ cut_later (get_or box at (0, 0)) (drop (at + 1) box) low);
      extent = known ∙ sym (ap longest here ∙ longest_later (get_or box at (0, 0)) (drop (at + 1) box) low);
    }

-- the cut of a box that has axes and points
pub record IsCut (box : List (ℕ × ℕ)) : Type 0 where
  pub within : cut_axis box < length box
  pub wide : extent (get_or box (cut_axis box) (0, 0)) ≡ longest box
  pub some : 1 ≤ longest box

pub cut_is : (box : List (ℕ × ℕ)) → 1 ≤ length box → IsOrdered box → IsCut box
cut_is [] some ordered = absurd (omega arith)
cut_is (b ∷ bs) some ordered =
    ⊎_elim (λ less. here less) (λ less. later bs (cut_is bs) less (All-tail (λ (b : ℕ × ℕ). b.0 ≤ b.1) b bs ordered)) (cases_lt (longest bs) (extent b))
  where
    wide : 1 ≤ extent b
    wide = omega (arith, All-head (λ (b : ℕ × ℕ). b.0 ≤ b.1) b bs ordered)

    here : longest bs < extent b → IsCut (b ∷ bs)
    here less =
        let first = cut_here b bs less in
        let most = longest_here b bs less in
        record {
          within = omega (arith, first);
          wide = ap (λ (k : ℕ). extent (get_or (b ∷ bs) k (0, 0))) first ∙ sym most;
          some = omega (arith, most, wide);
        }

    later : (cs : List (ℕ × ℕ)) → (1 ≤ length cs → IsOrdered cs → IsCut cs) → extent b ≤ longest cs → IsOrdered cs → IsCut (b ∷ cs)
    later [] rest less ordered = absurd (omega (arith, wide))
    later (c ∷ cs) rest less ordered =
        let behind = rest (omega arith) ordered in
        let next = cut_later b (c ∷ cs) less in
        let most = longest_later b (c ∷ cs) less in
        record {
          within = omega (arith, next, behind.within);
          wide = ap (λ (k : ℕ). extent (get_or (b ∷ c ∷ cs) k (0, 0))) next ∙ behind.wide ∙ sym most;
          some = omega (arith, most, behind.some);
        }

-- ---- other bounds on an axis

pub bounded_is : (axis : ℕ) (bounds : ℕ × ℕ) (box : List (ℕ × ℕ)) → bounded_on axis bounds box ≡ set box axis bounds
bounded_is axis bounds [] = refl
bounded_is zero bounds (b ∷ bs) = refl
bounded_is (suc axis) bounds (b ∷ bs) = ap (λ (rest : List (ℕ × ℕ)). b ∷ rest) (bounded_is axis bounds bs)

pub length-bounded : (axis : ℕ) (bounds : ℕ × ℕ) (box : List (ℕ × ℕ)) → length (bounded_on axis bounds box) ≡ length box
length-bounded axis bounds [] = refl
length-bounded zero bounds (b ∷ bs) = refl
length-bounded (suc axis) bounds (b ∷ bs) = ap suc (length-bounded axis bounds bs)

-- the ends of a box with other bounds on an axis
pub zip_bounded : (axis from to : ℕ) (box : List (ℕ × ℕ)) →
    zip (set (lower_ends box) axis from) (set (upper_ends box) axis to) ≡ bounded_on axis (from, to) box
zip_bounded axis from to [] = refl
zip_bounded zero from to (b ∷ bs) = ap (λ (rest : List (ℕ × ℕ)). (from, to) ∷ rest) (zip-ends bs)
zip_bounded (suc axis) from to (b ∷ bs) = ap (λ (rest : List (ℕ × ℕ)). b ∷ rest) (zip_bounded axis from to bs)

-- bounds that are narrower on an axis
pub record AreWithin (box : List (ℕ × ℕ)) (axis from to : ℕ) : Type 0 where
  pub inside : axis < length box
  pub low : (get_or box axis (0, 0)).0 ≤ from
  pub ordered : from ≤ to
  pub high : to ≤ (get_or box axis (0, 0)).1

pub ordered_bounded : (axis from to : ℕ) (box : List (ℕ × ℕ)) → IsOrdered box → from ≤ to → IsOrdered (bounded_on axis (from, to) box)
ordered_bounded axis from to [] ordered h = ordered
ordered_bounded zero from to (b ∷ bs) ordered h = All-cons (λ (b : ℕ × ℕ). b.0 ≤ b.1) (from, to) bs h (All-tail (λ (b : ℕ × ℕ). b.0 ≤ b.1) b bs ordered)
ordered_bounded (suc axis) from to (b ∷ bs) ordered h = All-cons (λ (b : ℕ × ℕ). b.0 ≤ b.1) b (bounded_on axis (from, to) bs)
    (All-head (λ (b : ℕ × ℕ). b.0 ≤ b.1) b bs ordered) (ordered_bounded axis from to bs (All-tail (λ (b : ℕ × ℕ). b.0 ≤ b.1) b bs ordered) h)

pub size_bounded : (axis from to : ℕ) (box : List (ℕ × ℕ)) → AreWithin box axis from to → size (bounded_on axis (from, to) box) ≤ size box
size_bounded axis from to [] is = absurd (omega (arith, is.inside))
size_bounded zero from to (b ∷ bs) is = mul-le (extent (from, to)) (size bs) (extent b) (size bs) (omega (arith, is.low, is.high)) (omega arith)
size_bounded (suc axis) from to (b ∷ bs) is = mul-le (extent b) (size (bounded_on axis (from, to) bs)) (extent b) (size bs) (omega arith)
    (size_bounded axis from to bs (record { inside = omega (arith, is.inside); low = is.low; ordered = is.ordered; high = is.high }))

-- what a box with narrower bounds is made of
pub ends_bounded : (axis from to : ℕ) (box : List (ℕ × ℕ)) → IsRegion box → AreWithin box axis from to →
    AreEnds (set (lower_ends box) axis from) (set (upper_ends box) axis to)
ends_bounded axis from to box valid is =
    let made = zip_bounded axis from to box in
    let lows = length-set (lower_ends box) axis from ∙ length-map box (λ (b : ℕ × ℕ). b.0) in
    let highs = length-set (upper_ends box) axis to ∙ length-map box (λ (b : ℕ × ℕ). b.1) in
    let few : length (points (bounded_on axis (from, to) box)) ≤ 2 ^ 40 =
    omega (arith, length-points (bounded_on axis (from, to) box), length-points box, size_bounded axis from to box is, valid.few) in
    record {
      same_axes = lows ∙ sym highs;
      ordered = subst IsOrdered (sym made) (ordered_bounded axis from to box valid.ordered is.ordered);
      few = subst (λ (bs : List (ℕ × ℕ)). length (points bs) ≤ 2 ^ 40) (sym made) few;
    }

-- ---- a point with another coordinate

pub point_made : (p xs : List ℕ) (n axis x : ℕ) → n ≡ length p → n ≤ length xs → axis < n →
    ((k : ℕ) → k < n → get_or xs k 0 ≡ get_or p k 0) → take n (set xs axis x) ≡ set p axis x
point_made p xs n axis x count room inside known = ext_get_or 0 (take n (set xs axis x)) (set p axis x) same each
  where
    long : length (take n (set xs axis x)) ≡ n
    long = length-take-le n (set xs axis x) (omega (arith, length-set xs axis x))

    same : length (take n (set xs axis x)) ≡ length (set p axis x)
    same = long ∙ count ∙ sym (length-set p axis x)

    here : (k : ℕ) → k < n → k ≡ axis → get_or (set xs axis x) k 0 ≡ get_or (set p axis x) k 0
    here k h e =
        ap (λ (i : ℕ). get_or (set xs axis x) i 0) e ∙ get_or-set_same xs axis x 0 (omega arith)
        ∙ sym (ap (λ (i : ℕ). get_or (set p axis x) i 0) e ∙ get_or-set_same p axis x 0 (omega arith))

    there : (k : ℕ) → k < n → k ≢ axis → get_or (set xs axis x) k 0 ≡ get_or (set p axis x) k 0
    there k h e = get_or-set_other xs axis k x 0 e ∙ known k h ∙ sym (get_or-set_other p axis k x 0 e)

    each : (k : ℕ) → k < length (take n (set xs axis x)) → get_or (take n (set xs axis x)) k 0 ≡ get_or (set p axis x) k 0
    each k h =
        let small : k < n = omega (arith, long) in
        get_or-take n (set xs axis x) k 0 small ∙ ⊎_elim (here k small) (there k small) (cases_eq k axis)

pub point_is : (p : List ℕ) (axis x : ℕ) → IsPoint p → x ≤ 2 ^ 40 → IsPoint (set p axis x)
point_is p axis x valid small = record {
  axes = subst IsAxes (sym (length-set p axis x)) valid.axes;
  small = All-set (λ (x : ℕ). x ≤ 2 ^ 40) p axis x small valid.small;
}

-- ---- the ends of a box on an axis

pub record HasEnds (box : List (ℕ × ℕ)) (k lo hi : ℕ) : Type 0 where
  pub low : lo ≡ (get_or box k (0, 0)).0
  pub high : hi ≡ (get_or box k (0, 0)).1
  pub ordered : lo ≤ hi
  pub wide : hi + 1 - lo ≡ extent (get_or box k (0, 0))

pub ends_at : (box : List (ℕ × ℕ)) (los his : List ℕ) (k lo hi : ℕ) → k < length box → IsOrdered box →
    los ≡ lower_ends box → his ≡ upper_ends box → lo ≡ get_or los k 0 → hi ≡ get_or his k 0 → HasEnds box k lo hi
ends_at box los his k lo hi inside ordered lows highs low high =
    let first = lower_at box los k lo inside lows low in
    let last = upper_at box his k hi inside highs high in
    record {
      low = first;
      high = last;
      ordered = omega (arith, first, last, All-get_or (λ (b : ℕ × ℕ). b.0 ≤ b.1) box k (0, 0) inside ordered);
      wide = omega (arith, first, last);
    }

pub few_high : (box : List (ℕ × ℕ)) (axis from to : ℕ) → IsRegion box → AreWithin box axis from to → to ≤ 2 ^ 40
few_high box axis from to valid is = omega (arith, is.high, All-get_or (λ (b : ℕ × ℕ). b.1 ≤ 2 ^ 40) box axis (0, 0) is.inside valid.small)

-- ---- the part of a rank

-- the part of one rank of some, of the coordinates of an axis
pub record IsShare (wide count rank : ℕ) : Type 0 where
  pub below : rank * wide / count < (rank + 1) * wide / count
  pub within : (rank + 1) * wide / count ≤ wide

pub share_is : (wide count rank : ℕ) → 1 ≤ count → count ≤ wide → rank < count → IsShare wide count rank
share_is wide count rank some few inside = record {
  below =
      let whole : rank * wide / count * count ≤ rank * wide = div-mul-le_self (rank * wide) count in
      let next : (rank + 1) * wide ≡ rank * wide + wide = grind arith in
      let step : (rank * wide / count + 1) * count ≡ rank * wide / count * count + count = grind arith in
      let least : rank * wide / count + 1 ≤ (rank + 1) * wide / count = le-div (rank * wide / count + 1) ((rank + 1) * wide) count some (omega (arith, whole, next, step, few)) in
      omega (arith, least);
  within = div-le_of_le-mul count (mul-le (rank + 1) wide count wide (omega arith) (omega arith));
}

-- the bounds of a rank on the axis of the cut
pub record IsRankPart (box : List (ℕ × ℕ)) (n rank axis first before behind : ℕ) : Type 0 where
  pub inside : axis < length box
  pub wide : longest box ≤ 2 ^ 41
  pub fits : first + before < 2 ^ 64
  pub fits_too : first + behind < 2 ^ 64
  pub some : 1 ≤ first + behind
  pub within : AreWithin box axis (first + before) (first + behind - 1)
  pub is : bounded_on axis (first + before, first + behind - 1) box ≡ rank_region box n rank

pub rank_part : (box : List (ℕ × ℕ)) (n rank axis count first before behind : ℕ) → IsRegion box → rank < rank_count box n →
    axis ≡ cut_axis box → count ≡ rank_count box n → first ≡ (get_or box axis (0, 0)).0 →
    before ≡ rank * longest box / count → behind ≡ (rank + 1) * longest box / count →
    IsRankPart box n rank axis first before behind
rank_part box n rank axis count first before behind valid among at counted low here there =
    let cut = cut_is box (omega (arith, valid.axes.0)) valid.ordered in
    let inside : axis < length box = omega (arith, at, cut.within) in
    let wide : extent (get_or box axis (0, 0)) ≡ longest box = ap (λ (k : ℕ). extent (get_or box k (0, 0))) at ∙ cut.wide in
    let ordered = All-get_or (λ (b : ℕ × ℕ). b.0 ≤ b.1) box axis (0, 0) inside valid.ordered in
    let small = All-get_or (λ (b : ℕ × ℕ). b.1 ≤ 2 ^ 40) box axis (0, 0) inside valid.small in
    let part = share_is (longest box) count rank (omega (arith, counted, among)) (omega (arith, counted, among)) (omega (arith, counted, among)) in
    let less : before < behind = omega (arith, here, there, part.below) in
    let most : behind ≤ longest box = omega (arith, there, part.within) in
    record {
      inside = inside;
      wide = omega (arith, wide, small, ordered);
      fits = omega (arith, wide, small, ordered, less, most, low);
      fits_too = omega (arith, wide, small, ordered, less, most, low);
      some = omega (arith, less);
      within = record {
        inside = inside;
        low = omega (arith, low);
        ordered = omega (arith, less);
        high = omega (arith, wide, low, most, less, ordered);
      };
      is = same cut wide;
    }
  where
    same : IsCut box → extent (get_or box axis (0, 0)) ≡ longest box → bounded_on axis (first + before, first + behind - 1) box ≡ rank_region box n rank
    same cut wide =
        let b : ℕ × ℕ = get_or box axis (0, 0) in
        let from : first + before ≡ b.0 + rank * extent b / rank_count box n =
        ap (λ (x : ℕ). x + before) low ∙ ap (λ (x : ℕ). b.0 + x) (here ∙ ap (λ (x : ℕ). rank * x / count) (sym wide) ∙ ap (λ (x : ℕ). rank * extent b / x) counted) in
        let to : first + behind - 1 ≡ b.0 + (rank + 1) * extent b / rank_count box n - 1 =
        ap (λ (x : ℕ). x - 1) (ap (λ (x : ℕ). x + behind) low ∙ ap (λ (x : ℕ). b.0 + x) (there ∙ ap (λ (x : ℕ). (rank + 1) * x / count) (sym wide) ∙ ap (λ (x : ℕ). (rank + 1) * extent b / x) counted)) in
        ap (λ (x : ℕ). bounded_on axis (x, first + behind - 1) box) from
        ∙ ap (λ (x : ℕ). bounded_on axis (b.0 + rank * extent b / rank_count box n, x) box) to
        ∙ ap (λ (k : ℕ). bounded_on k (rank_bounds (get_or box k (0, 0)) (rank_count box n) rank) box) at

pub length-rank_region : (box : List (ℕ × ℕ)) (n rank : ℕ) → length (rank_region box n rank) ≡ length box
length-rank_region box n rank = length-bounded (cut_axis box) (rank_bounds (get_or box (cut_axis box) (0, 0)) (rank_count box n) rank) box
