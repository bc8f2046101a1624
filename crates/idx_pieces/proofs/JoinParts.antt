-- The parts of a piece, side by side along the axis of the cut.
use Rattle.std.proofs.Common.{◌≡◌, ℕ, zero, suc, ◌+◌, ◌-◌, ◌*◌, ◌/◌, ◌<◌, ◌≤◌, true, false, List, [], ◌∷◌, ◌++◌, length, map, take, drop, get_or, sym, ap, ◌∙◌, arith, subst, ⊎_elim, zero-add, append_assoc}
use Rattle.std.specs.Prelude.{max, min}
use Rattle.std.specs.List.{flat_map, range_with_len}
use Rattle.std.proofs.lemmas.Bool.{cases_lt}
use Rattle.std.proofs.lemmas.List.{append-nil, get_or-map, set-get_or, set_split}
use Rattle.std.proofs.lemmas.List.Elements.{All-get_or}
use Rattle.std.proofs.lemmas.Nat.{le-div}
use Rattle.std.proofs.Math.Nat.{div-le_of_le-mul, mul_comm}
use Rattle.idx_geom.specs.Region.{HaveCommonPoint, IsRegion, LiesIn, common_bounds, extent, lower_ends, points, upper_ends}
use Rattle.idx_geom.proofs.EndsLemmas.{IsOrdered}
use Rattle.idx_geom.proofs.LiesInLemmas.{IsBetween, IsOrdered-from_point, LiesIn-at_axis, LiesIn-common_bounds, LiesIn-lower_ends, LiesIn-upper_ends, both_from_common_bounds}
use Rattle.idx_layout.proofs.ListLemmas.{range_with_len-more}
use Rattle.idx_pieces.specs.Ranks.{bounded_on, cut_axis, longest, meets, rank_count, rank_region, ranks_in}
use Rattle.idx_pieces.proofs.BoundsLemmas.{meets_from_common, same_from_points}
use Rattle.idx_pieces.proofs.ContainsLemmas.{range_out}
use Rattle.idx_pieces.proofs.JoinLists.{joined_agree, joined_append, joined_filter, joined_map, joined_twice, points-append, ranges_joined}
use Rattle.idx_pieces.proofs.LawLemmas.{front_of, in_bounded, of_rank, out_bounded, part_is}
use Rattle.idx_pieces.proofs.RankLemmas.{bounded_is, cut_is, length-rank_region, ordered_bounded}

-- the first coordinate, along the axis of the cut, of the part of the box that a rank has
abbrev pub begin_of : List (ℕ × ℕ) → ℕ → ℕ → ℕ
begin_of box n rank = (get_or box (cut_axis box) (0, 0)).0 + front_of box n rank

-- the bounds, along the axis of the cut, of the part of a region that a rank has
abbrev pub part_bounds : List (ℕ × ℕ) → ℕ → List (ℕ × ℕ) → ℕ → ℕ × ℕ
part_bounds box n region rank = (
  max (begin_of box n rank) (get_or region (cut_axis box) (0, 0)).0,
  min (begin_of box n (rank + 1) - 1) (get_or region (cut_axis box) (0, 0)).1,
)

-- a region in a box
pub record IsIn (box : List (ℕ × ℕ)) (n : ℕ) (region : List (ℕ × ℕ)) : Type 0 where
  pub valid : IsRegion box
  pub some : 1 ≤ n
  pub axes : length region ≡ length box
  pub ordered : IsOrdered region
  pub inside : (p : List ℕ) → LiesIn region p → LiesIn box p

-- the points of a part
in_part : (box : List (ℕ × ℕ)) (n : ℕ) (region : List (ℕ × ℕ)) (rank : ℕ) (p : List ℕ) → IsIn box n region → rank < rank_count box n →
    LiesIn (bounded_on (cut_axis box) (part_bounds box n region rank) region) p → LiesIn (rank_region box n rank) p × LiesIn region p
in_part box n region rank p is among lies =
    let axis : ℕ = cut_axis box in
    let cut = cut_is box (omega (arith, is.valid.axes.0)) is.valid.ordered in
    let part = part_is box n rank is.valid among in
    let out = out_bounded axis (part_bounds box n region rank) region p (omega (arith, cut.within, is.axes)) (omega arith) (omega arith) lies in
    let here : LiesIn (bounded_on axis (begin_of box n rank, begin_of box n (rank + 1) - 1) box) p =
    in_bounded axis (begin_of box n rank, begin_of box n (rank + 1) - 1) box p (is.inside p out.0) (omega (arith, out.1)) (omega (arith, out.2)) in
    (subst (λ (bs : List (ℕ × ℕ)). LiesIn bs p) part.is here, out.0)

of_part : (box : List (ℕ × ℕ)) (n : ℕ) (region : List (ℕ × ℕ)) (rank : ℕ) (p : List ℕ) → IsIn box n region → rank < rank_count box n →
    LiesIn (rank_region box n rank) p → LiesIn region p → LiesIn (bounded_on (cut_axis box) (part_bounds box n region rank) region) p
of_part box n region rank p is among ranked lies =
    let axis : ℕ = cut_axis box in
    let cut = cut_is box (omega (arith, is.valid.axes.0)) is.valid.ordered in
    let of = of_rank box n rank p is.valid among ranked in
    let between : IsBetween (get_or region axis (0, 0)) (get_or p axis 0) = LiesIn-at_axis region p lies axis (omega (arith, cut.within, is.axes)) in
    in_bounded axis (part_bounds box n region rank) region p lies (omega (arith, of.from, between.0)) (omega (arith, of.to, between.1))

-- the part of a rank is the region with other bounds on the axis of the cut
pub part_bounded : (box : List (ℕ × ℕ)) (n : ℕ) (region : List (ℕ × ℕ)) (rank : ℕ) → IsIn box n region → rank < rank_count box n →
    HaveCommonPoint (rank_region box n rank) region →
    common_bounds (rank_region box n rank) region ≡ bounded_on (cut_axis box) (part_bounds box n region rank) region
part_bounded box n region rank is among common =
    let axes : length (rank_region box n rank) ≡ length region = length-rank_region box n rank ∙ sym is.axes in
    let there = of_part box n region rank common.0 is among common.1.0 common.1.1 in
    same_from_points (common_bounds (rank_region box n rank) region) (bounded_on (cut_axis box) (part_bounds box n region rank) region)
    (IsOrdered-from_point (bounded_on (cut_axis box) (part_bounds box n region rank) region) common.0 there)
    (λ p. (
      λ both. let two = both_from_common_bounds (rank_region box n rank) region p axes both in of_part box n region rank p is among two.0 two.1,
      λ lies. let two = in_part box n region rank p is among lies in LiesIn-common_bounds (rank_region box n rank) region p two.0 two.1,
    ))

-- a rank without a part has no coordinate of the region
none_apart : (box : List (ℕ × ℕ)) (n : ℕ) (region : List (ℕ × ℕ)) (rank : ℕ) → IsIn box n region → rank < rank_count box n →
    meets (rank_region box n rank) region ≡ false → extent (part_bounds box n region rank) ≡ 0
none_apart box n region rank is among apart =
    ⊎_elim (λ less. wrong less) (λ none. omega (arith, none)) (cases_lt 0 (extent (part_bounds box n region rank)))
  where
    wrong : 0 < extent (part_bounds box n region rank) → extent (part_bounds box n region rank) ≡ 0
    wrong some =
        let b : ℕ × ℕ = part_bounds box n region rank in
        let narrow : List (ℕ × ℕ) = bounded_on (cut_axis box) b region in
        let ordered : IsOrdered narrow = ordered_bounded (cut_axis box) b.0 b.1 region is.ordered (omega (arith, some)) in
        let two = in_part box n region rank (lower_ends narrow) is among (LiesIn-lower_ends narrow ordered) in
        let met : true ≡ false = sym (meets_from_common (rank_region box n rank) region (lower_ends narrow, (two.0, two.1))) ∙ apart in
        cc

-- the ends of a region on the axis of the cut
record HasEndsThere (box : List (ℕ × ℕ)) (n : ℕ) (region : List (ℕ × ℕ)) : Type 0 where
  low : begin_of box n 0 ≤ (get_or region (cut_axis box) (0, 0)).0
  high : (get_or region (cut_axis box) (0, 0)).1 + 1 ≤ begin_of box n (rank_count box n)
  ordered : (get_or region (cut_axis box) (0, 0)).0 ≤ (get_or region (cut_axis box) (0, 0)).1

ends_there : (box : List (ℕ × ℕ)) (n : ℕ) (region : List (ℕ × ℕ)) → IsIn box n region → HasEndsThere box n region
ends_there box n region is =
    let axis : ℕ = cut_axis box in
    let cut = cut_is box (omega (arith, is.valid.axes.0)) is.valid.ordered in
    let within : axis < length region = omega (arith, cut.within, is.axes) in
    let count : 1 ≤ rank_count box n = omega (arith, is.some, cut.some) in
    let lows = LiesIn-lower_ends region is.ordered in
    let highs = LiesIn-upper_ends region is.ordered in
    let low : IsBetween (get_or box axis (0, 0)) (get_or (lower_ends region) axis 0) = LiesIn-at_axis box (lower_ends region) (is.inside (lower_ends region) lows) axis cut.within in
    let high : IsBetween (get_or box axis (0, 0)) (get_or (upper_ends region) axis 0) = LiesIn-at_axis box (upper_ends region) (is.inside (upper_ends region) highs) axis cut.within in
    let from : get_or (lower_ends region) axis 0 ≡ (get_or region axis (0, 0)).0 = get_or-map (λ (b : ℕ × ℕ). b.0) region axis (0, 0) 0 within in
    let to : get_or (upper_ends region) axis 0 ≡ (get_or region axis (0, 0)).1 = get_or-map (λ (b : ℕ × ℕ). b.1) region axis (0, 0) 0 within in
    let all : longest box ≤ front_of box n (rank_count box n) = le-div (longest box) (rank_count box n * longest box) (rank_count box n) count (omega (arith, mul_comm (longest box) (rank_count box n))) in
    record {
      low = omega (arith, first (rank_count box n) count, low.0, from);
      high = omega (arith, all, high.1, to, cut.wide, high.0);
      ordered = All-get_or (λ (b : ℕ × ℕ). b.0 ≤ b.1) region axis (0, 0) within is.ordered;
    }
  where
    first : (k : ℕ) → 1 ≤ k → 0 * longest box / k ≡ 0
    first k h = omega (arith, div-le_of_le-mul k {m = 0 * longest box} {n = 0} (omega arith))

-- one more part of a range of coordinates
one_more : (lo hi from to : ℕ) → from ≤ to - 1 → 1 ≤ to → lo ≤ hi →
    min to (hi + 1) - lo ≡ (min from (hi + 1) - lo) + (min (to - 1) hi + 1 - max from lo)
one_more lo hi from to step some ordered = omega arith

next_begins : (lo hi from to : ℕ) → from ≤ to - 1 → 1 ≤ to → lo ≤ hi → 1 ≤ min (to - 1) hi + 1 - max from lo →
    max from lo ≡ lo + (min from (hi + 1) - lo)
next_begins lo hi from to step some ordered wide = omega arith

-- the coordinates of the part of a rank
abbrev pub part_range : List (ℕ × ℕ) → ℕ → List (ℕ × ℕ) → ℕ → List ℕ
part_range box n region rank = range_with_len (part_bounds box n region rank).0 (extent (part_bounds box n region rank))

-- how many coordinates of a region lie before the part of a rank
abbrev before_of : List (ℕ × ℕ) → ℕ → List (ℕ × ℕ) → ℕ → ℕ
before_of box n region rank = min (begin_of box n rank) ((get_or region (cut_axis box) (0, 0)).1 + 1) - (get_or region (cut_axis box) (0, 0)).0

-- those of the first ranks, end to end
front_range : (box : List (ℕ × ℕ)) (n : ℕ) (region : List (ℕ × ℕ)) (m : ℕ) → IsIn box n region → m ≤ rank_count box n →
    flat_map (part_range box n region) (range_with_len 0 m) ≡ range_with_len (get_or region (cut_axis box) (0, 0)).0 (before_of box n region m)
front_range box n region zero is few =
    ap (range_with_len (get_or region (cut_axis box) (0, 0)).0) (none (ends_there box n region is).low)
  where
    none : begin_of box n 0 ≤ (get_or region (cut_axis box) (0, 0)).0 → 0 ≡ before_of box n region 0
    none low = omega arith
front_range box n region (suc m) is few =
    let lo : ℕ = (get_or region (cut_axis box) (0, 0)).0 in
    let hi : ℕ = (get_or region (cut_axis box) (0, 0)).1 in
    let part = part_is box n m is.valid (omega (arith, few)) in
    let ends = ends_there box n region is in
    let next : suc m ≡ m + 1 = omega arith in
    let some : 1 ≤ begin_of box n (m + 1) = part.some in
    let step : begin_of box n m ≤ begin_of box n (m + 1) - 1 = part.within.ordered in
    ap (λ (k : ℕ). flat_map (part_range box n region) (range_with_len 0 k)) next
    ∙ ap (flat_map (part_range box n region)) (range_with_len-more 0 m)
    ∙ joined_append (part_range box n region) (range_with_len 0 m) ((0 + m) ∷ [])
    ∙ ap (λ (xs : List ℕ). xs ++ flat_map (part_range box n region) ((0 + m) ∷ [])) (front_range box n region m is (omega (arith, few)))
    ∙ ap (λ (k : ℕ). range_with_len lo (before_of box n region m) ++ flat_map (part_range box n region) (k ∷ [])) (zero-add m)
    ∙ ap (λ (xs : List ℕ). range_with_len lo (before_of box n region m) ++ xs) (append-nil (part_range box n region m))
    ∙ ranges_joined lo (before_of box n region m) (part_bounds box n region m).0 (extent (part_bounds box n region m)) (before_of box n region (m + 1))
    (one_more lo hi (begin_of box n m) (begin_of box n (m + 1)) step some ends.ordered)
    (λ wide. next_begins lo hi (begin_of box n m) (begin_of box n (m + 1)) step some ends.ordered wide)
    ∙ ap (λ (k : ℕ). range_with_len lo (before_of box n region k)) (sym next)

-- the coordinates of a region on the axis of the cut: those of its ranks' parts, end to end
pub ranks_range : (box : List (ℕ × ℕ)) (n : ℕ) (region : List (ℕ × ℕ)) → IsIn box n region →
    flat_map (part_range box n region) (ranks_in box n region)
    ≡ range_with_len (get_or region (cut_axis box) (0, 0)).0 (extent (get_or region (cut_axis box) (0, 0)))
ranks_range box n region is =
    let ends = ends_there box n region is in
    joined_filter (part_range box n region) (λ rank. meets (rank_region box n rank) region) (range_with_len 0 (rank_count box n))
    (λ rank at apart. ap (range_with_len (part_bounds box n region rank).0) (none_apart box n region rank is (range_out (rank_count box n) rank at) apart))
    ∙ front_range box n region (rank_count box n) is (omega arith)
    ∙ ap (range_with_len (get_or region (cut_axis box) (0, 0)).0) (whole ends.high)
  where
    whole : (get_or region (cut_axis box) (0, 0)).1 + 1 ≤ begin_of box n (rank_count box n) →
        before_of box n region (rank_count box n) ≡ extent (get_or region (cut_axis box) (0, 0))
    whole high = omega arith

-- ---- the points of a region, by places behind the axis of the cut and by ranks

-- the bounds in front of the axis of the cut, and those behind it
abbrev pub front_axes : List (ℕ × ℕ) → List (ℕ × ℕ) → List (ℕ × ℕ)
front_axes box region = take (cut_axis box) region

abbrev pub back_axes : List (ℕ × ℕ) → List (ℕ × ℕ) → List (ℕ × ℕ)
back_axes box region = drop (cut_axis box + 1) region

-- what a function of points gives at the points, of these bounds on the axis of the cut, that have a place behind it
abbrev pub row_at : {X : Type 0} → (List ℕ → List X) → List (ℕ × ℕ) → List (ℕ × ℕ) → ℕ × ℕ → List ℕ → List X
row_at g box region b s = flat_map (λ q. g (q ++ s)) (points (front_axes box region ++ b ∷ []))

split_at_cut : (box region : List (ℕ × ℕ)) (b : ℕ × ℕ) → cut_axis box < length region →
    bounded_on (cut_axis box) b region ≡ (front_axes box region ++ b ∷ []) ++ back_axes box region
split_at_cut box region b inside =
    let next : suc (cut_axis box) ≡ cut_axis box + 1 = omega arith in
    bounded_is (cut_axis box) b region
    ∙ set_split region (cut_axis box) b inside
    ∙ ap (λ (k : ℕ). front_axes box region ++ b ∷ drop k region) next
    ∙ sym (append_assoc (front_axes box region) (b ∷ []) (back_axes box region))

-- by places behind
pub by_rows : {X : Type 0} → (g : List ℕ → List X) (box region : List (ℕ × ℕ)) (b : ℕ × ℕ) → cut_axis box < length region →
    flat_map g (points (bounded_on (cut_axis box) b region)) ≡ flat_map (row_at g box region b) (points (back_axes box region))
by_rows {X} g box region b inside =
    ap (λ (bs : List (ℕ × ℕ)). flat_map g (points bs)) (split_at_cut box region b inside)
    ∙ ap (flat_map g) (points-append (front_axes box region ++ b ∷ []) (back_axes box region))
    ∙ joined_twice g (λ s. map (λ q. q ++ s) (points (front_axes box region ++ b ∷ []))) (points (back_axes box region))
    ∙ joined_agree (λ s. flat_map g (map (λ q. q ++ s) (points (front_axes box region ++ b ∷ [])))) (row_at g box region b) (points (back_axes box region))
    (λ s. joined_map g (λ q. q ++ s) (points (front_axes box region ++ b ∷ [])))

-- the points in front and on the axis of the cut, coordinate by coordinate on it
abbrev slices : List (ℕ × ℕ) → ℕ → List (List ℕ)
slices front x = map (λ q. q ++ x ∷ []) (points front)

front_points : (front : List (ℕ × ℕ)) (b : ℕ × ℕ) → points (front ++ b ∷ []) ≡ flat_map (slices front) (range_with_len b.0 (extent b))
front_points front b =
    points-append front (b ∷ [])
    ∙ ap (flat_map (λ s. map (λ q. q ++ s) (points front))) (append-nil (map (λ x. x ∷ []) (range_with_len b.0 (extent b))))
    ∙ joined_map (λ s. map (λ q. q ++ s) (points front)) (λ x. x ∷ []) (range_with_len b.0 (extent b))

-- by ranks
pub by_ranks : {X : Type 0} → (g : List ℕ → List X) (box : List (ℕ × ℕ)) (n : ℕ) (region : List (ℕ × ℕ)) (s : List ℕ) → IsIn box n region →
    row_at g box region (get_or region (cut_axis box) (0, 0)) s
    ≡ flat_map (λ rank. row_at g box region (part_bounds box n region rank) s) (ranks_in box n region)
by_ranks {X} g box n region s is =
    let front : List (ℕ × ℕ) = front_axes box region in
    let b : ℕ × ℕ = get_or region (cut_axis box) (0, 0) in
    ap (flat_map (λ q. g (q ++ s))) (front_points front b
    ∙ ap (flat_map (slices front)) (sym (ranks_range box n region is))
    ∙ joined_twice (slices front) (part_range box n region) (ranks_in box n region)
    ∙ joined_agree (λ rank. flat_map (slices front) (part_range box n region rank)) (λ rank. points (front ++ part_bounds box n region rank ∷ [])) (ranks_in box n region)
    (λ rank. sym (front_points front (part_bounds box n region rank))))
    ∙ joined_twice (λ q. g (q ++ s)) (λ rank. points (front ++ part_bounds box n region rank ∷ [])) (ranks_in box n region)

-- the whole region, by places behind and by ranks
pub by_rows_and_ranks : {X : Type 0} → (g : List ℕ → List X) (box : List (ℕ × ℕ)) (n : ℕ) (region : List (ℕ × ℕ)) → IsIn box n region →
    flat_map g (points region)
    ≡ flat_map (λ s. flat_map (λ rank. row_at g box region (part_bounds box n region rank) s) (ranks_in box n region)) (points (back_axes box region))
by_rows_and_ranks {X} g box n region is =
    let cut = cut_is box (omega (arith, is.valid.axes.0)) is.valid.ordered in
    let axis : ℕ = cut_axis box in
    let inside : axis < length region = omega (arith, cut.within, is.axes) in
    let same : region ≡ bounded_on axis (get_or region axis (0, 0)) region = sym (bounded_is axis (get_or region axis (0, 0)) region ∙ set-get_or region axis (0, 0)) in
    ap (λ (bs : List (ℕ × ℕ)). flat_map g (points bs)) same
    ∙ by_rows g box region (get_or region axis (0, 0)) inside
    ∙ joined_agree (row_at g box region (get_or region axis (0, 0))) (λ s. flat_map (λ rank. row_at g box region (part_bounds box n region rank) s) (ranks_in box n region)) (points (back_axes box region))
    (λ s. by_ranks g box n region s is)
