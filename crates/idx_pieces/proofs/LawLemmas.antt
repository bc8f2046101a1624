-- Ranks and pieces divide a box.
use Rattle.std.proofs.Common.{◌≡◌, ℕ, zero, suc, ◌+◌, ◌-◌, ◌*◌, ◌/◌, ◌^◌, ◌<◌, ◌≤◌, ◌↔◌, Bool, true, List, [], ◌∷◌, length, get_or, refl, sym, ap, ◌∙◌, arith, subst, ⊎_elim}
use Rattle.std.specs.Prelude.{filter, All, Contains}
use Rattle.std.specs.List.{range_with_len}
use Rattle.std.proofs.lemmas.Bool.{cases_lt}
use Rattle.std.proofs.lemmas.List.Elements.{All-get_or, All-set}
use Rattle.std.proofs.lemmas.List.{length-map}
use Rattle.std.proofs.lemmas.List.FromFn.{length-range_with_len}
use Rattle.std.proofs.lemmas.Nat.{le-div, mul-le, pow_pos, pow-add}
use Rattle.std.proofs.Math.Nat.{div-le_of_le-mul, div-mul-le_self, div-lt_iff_lt-mul}
use Rattle.idx_geom.specs.Point.{IsAxes}
use Rattle.idx_geom.specs.Region.{HasExactly, HaveCommonPoint, IsRegion, LiesIn, common_bounds}
use Rattle.idx_geom.proofs.EndsLemmas.{IsOrdered}
use Rattle.idx_geom.proofs.LiesInLemmas.{IsBetween, IsOrdered-from_point, LiesIn-at_axis, LiesIn-common_bounds, both_from_common_bounds, get_or-common_bounds, length-common_bounds}
use Rattle.idx_geom.proofs.PointsLemmas.{length-points}
use Rattle.idx_geom.proofs.RegionSteps.{HasExactly-common, few_common}
use Rattle.idx_hz.specs.Address.{z_address}
use Rattle.idx_hz.proofs.ZLemmas.{z_address-lt}
use Rattle.idx_header.specs.Header.{HeaderValue, IsHeader}
use Rattle.idx_pieces.specs.Pieces.{IsPiece, has_piece, part_of, piece_at, piece_of, piece_region, pieces_of}
use Rattle.idx_pieces.specs.Ranks.{bounded_on, cut_axis, longest, meets, rank_count, rank_region, ranks_in}
use Rattle.idx_pieces.specs.declared.piece.Piece.{Piece}
use Rattle.idx_pieces.proofs.BoundsLemmas.{common_from_meets, meets_from_common, same_from_points}
use Rattle.idx_pieces.proofs.ContainsLemmas.{filter_in, filter_out, map_in, map_out, range_in, range_out}
use Rattle.idx_pieces.proofs.PieceLemmas.{IsCovered, front_box, front_iff, id_is, piece_from_prefix, piece_has_point, point_of_piece, prefix_from_piece}
use Rattle.idx_pieces.proofs.RankLemmas.{IsRankPart, bounded_is, cut_is, length-bounded, length-rank_region, ordered_bounded, rank_part, size_bounded}

-- ---- bounds on an axis

pub in_bounded : (axis : ℕ) (b : ℕ × ℕ) (box : List (ℕ × ℕ)) (p : List ℕ) → LiesIn box p → b.0 ≤ get_or p axis 0 → get_or p axis 0 ≤ b.1 → LiesIn (bounded_on axis b box) p
in_bounded axis b [] p inside low high = inside
in_bounded axis b (c ∷ cs) [] inside low high = absurd inside
in_bounded zero b (c ∷ cs) (x ∷ xs) inside low high = (low, high, inside.2)
in_bounded (suc axis) b (c ∷ cs) (x ∷ xs) inside low high = (inside.0, inside.1, in_bounded axis b cs xs inside.2 low high)

-- a rank's part of its axis, of the places from 0 on
abbrev pub front_of : List (ℕ × ℕ) → ℕ → ℕ → ℕ
front_of box n rank = rank * longest box / rank_count box n

pub part_is : (box : List (ℕ × ℕ)) (n rank : ℕ) → IsRegion box → rank < rank_count box n →
    IsRankPart box n rank (cut_axis box) (get_or box (cut_axis box) (0, 0)).0 (front_of box n rank) (front_of box n (rank + 1))
part_is box n rank valid among =
    rank_part box n rank (cut_axis box) (rank_count box n) (get_or box (cut_axis box) (0, 0)).0 (front_of box n rank) (front_of box n (rank + 1))
    valid among refl refl refl refl refl

-- the region of a rank is one
pub rank_is_region : (box : List (ℕ × ℕ)) (n rank : ℕ) → IsRegion box → rank < rank_count box n → IsRegion (rank_region box n rank)
rank_is_region box n rank valid among =
    let part = part_is box n rank valid among in
    let axis : ℕ = cut_axis box in
    let from : ℕ = (get_or box axis (0, 0)).0 + front_of box n rank in
    let to : ℕ = (get_or box axis (0, 0)).0 + front_of box n (rank + 1) - 1 in
    let small : to ≤ 2 ^ 40 = omega (arith, part.within.high, All-get_or (λ (b : ℕ × ℕ). b.1 ≤ 2 ^ 40) box axis (0, 0) part.inside valid.small) in
    let made : IsRegion (bounded_on axis (from, to) box) = record {
      axes = subst IsAxes (sym (length-bounded axis (from, to) box)) valid.axes;
      ordered = ordered_bounded axis from to box valid.ordered part.within.ordered;
      small = subst (λ (bs : List (ℕ × ℕ)). All (λ (b : ℕ × ℕ). b.1 ≤ 2 ^ 40) bs) (sym (bounded_is axis (from, to) box)) (All-set (λ (b : ℕ × ℕ). b.1 ≤ 2 ^ 40) box axis (from, to) small valid.small);
      few = omega (arith, length-points (bounded_on axis (from, to) box), length-points box, size_bounded axis from to box part.within, valid.few);
    } in
    subst IsRegion part.is made

-- what a point of a rank is
pub record IsOfRank (box : List (ℕ × ℕ)) (n rank : ℕ) (p : List ℕ) : Type 0 where
  pub inside : LiesIn box p
  pub from : (get_or box (cut_axis box) (0, 0)).0 + front_of box n rank ≤ get_or p (cut_axis box) 0
  pub to : get_or p (cut_axis box) 0 < (get_or box (cut_axis box) (0, 0)).0 + front_of box n (rank + 1)

pub out_bounded : (axis : ℕ) (b : ℕ × ℕ) (box : List (ℕ × ℕ)) (p : List ℕ) → axis < length box → (get_or box axis (0, 0)).0 ≤ b.0 → b.1 ≤ (get_or box axis (0, 0)).1 →
    LiesIn (bounded_on axis b box) p → LiesIn box p × (b.0 ≤ get_or p axis 0) × (get_or p axis 0 ≤ b.1)
out_bounded axis b [] p within low high inside = absurd (omega arith)
out_bounded zero b (c ∷ cs) [] within low high inside = absurd inside
out_bounded (suc axis) b (c ∷ cs) [] within low high inside = absurd inside
out_bounded zero b (c ∷ cs) (x ∷ xs) within low high inside =
    let a : b.0 ≤ x = inside.0 in
    let z : x ≤ b.1 = inside.1 in
    ((omega (arith, low, a), omega (arith, high, z), inside.2), a, z)
out_bounded (suc axis) b (c ∷ cs) (x ∷ xs) within low high inside =
    let rest = out_bounded axis b cs xs (omega (arith, within)) low high inside.2 in
    ((inside.0, inside.1, rest.0), rest.1, rest.2)

pub of_rank : (box : List (ℕ × ℕ)) (n rank : ℕ) (p : List ℕ) → IsRegion box → rank < rank_count box n → LiesIn (rank_region box n rank) p → IsOfRank box n rank p
of_rank box n rank p valid among inside =
    let part = part_is box n rank valid among in
    let axis : ℕ = cut_axis box in
    let from : ℕ = (get_or box axis (0, 0)).0 + front_of box n rank in
    let to : ℕ = (get_or box axis (0, 0)).0 + front_of box n (rank + 1) - 1 in
    let here : LiesIn (bounded_on axis (from, to) box) p = subst (λ (bs : List (ℕ × ℕ)). LiesIn bs p) (sym part.is) inside in
    let out = out_bounded axis (from, to) box p part.inside part.within.low part.within.high here in
    record { inside = out.0; from = out.1; to = omega (arith, out.2, part.some) }

-- a place between the first and the last step lies in one step
find_step : (f : ℕ → ℕ) (d m : ℕ) → f 0 ≤ d → d < f m → (r : ℕ) × ((r < m) × ((f r ≤ d) × (d < f (r + 1))))
find_step f d zero low high = absurd (omega arith)
find_step f d (suc m) low high =
    ⊎_elim (λ less. let rest = find_step f d m low less in (rest.0, (omega (arith, rest.1.0), rest.1.1)))
    (λ most. (m, (omega arith, (most, subst (λ (k : ℕ). d < f k) (next m) high))))
    (cases_lt d (f m))
  where
    next : (k : ℕ) → suc k ≡ k + 1
    next k = omega arith

pub rank_of_point : (box : List (ℕ × ℕ)) (n : ℕ) (p : List ℕ) → IsRegion box → 1 ≤ n → LiesIn box p →
    (rank : ℕ) × ((rank < rank_count box n) × LiesIn (rank_region box n rank) p)
rank_of_point box n p valid some inside =
    let cut = cut_is box (omega (arith, valid.axes.0)) valid.ordered in
    let axis : ℕ = cut_axis box in
    let b : ℕ × ℕ = get_or box axis (0, 0) in
    let between : IsBetween b (get_or p axis 0) = LiesIn-at_axis box p inside axis cut.within in
    let place : get_or p axis 0 - b.0 < longest box = omega (arith, between.0, between.1, cut.wide) in
    let count : 1 ≤ rank_count box n = omega (arith, some, cut.some) in
    let none : front_of box n 0 ≤ get_or p axis 0 - b.0 = subst (λ (k : ℕ). k ≤ get_or p axis 0 - b.0) (sym (first (rank_count box n) count)) (omega arith) in
    let all : get_or p axis 0 - b.0 < front_of box n (rank_count box n) =
    omega (arith, place, le-div (longest box) (rank_count box n * longest box) (rank_count box n) count (grind arith)) in
    let found = find_step (front_of box n) (get_or p axis 0 - b.0) (rank_count box n) none all in
    let part = part_is box n found.0 valid found.1.0 in (
      found.0,
      (
        found.1.0,
        subst (λ (bs : List (ℕ × ℕ)). LiesIn bs p) part.is
            (in_bounded axis (b.0 + front_of box n found.0, b.0 + front_of box n (found.0 + 1) - 1) box p inside
            (omega (arith, found.1.1.0, between.0)) (omega (arith, found.1.1.1, between.0))),
      ),
    )
  where
    first : (k : ℕ) → 1 ≤ k → 0 * longest box / k ≡ 0
    first k h = omega (arith, div-le_of_le-mul k {m = 0 * longest box} {n = 0} (omega arith))

-- the parts of two ranks lie apart
pub front-le : (box : List (ℕ × ℕ)) (n r s : ℕ) → 1 ≤ rank_count box n → r ≤ s → front_of box n r ≤ front_of box n s
front-le box n r s some h =
    let whole = div-mul-le_self (r * longest box) (rank_count box n) in
    let more = mul-le r (longest box) s (longest box) h (omega arith) in
    le-div (front_of box n r) (s * longest box) (rank_count box n) some (omega (arith, whole, more))

not_before : (box : List (ℕ × ℕ)) (n rank other : ℕ) (p : List ℕ) → IsRegion box → rank < rank_count box n → other < rank_count box n →
    LiesIn (rank_region box n rank) p → LiesIn (rank_region box n other) p → other ≤ rank
not_before box n rank other p valid among too here there =
    let one = of_rank box n rank p valid among here in
    let two = of_rank box n other p valid too there in
    ⊎_elim
    (λ less. absurd (omega (arith, one.to, two.from, front-le box n (rank + 1) other (omega (arith, among)) (omega (arith, less)))))
    (λ fine. fine)
    (cases_lt rank other)

pub only_rank : (box : List (ℕ × ℕ)) (n rank other : ℕ) (p : List ℕ) → IsRegion box → rank < rank_count box n → other < rank_count box n →
    LiesIn (rank_region box n rank) p → LiesIn (rank_region box n other) p → rank ≡ other
only_rank box n rank other p valid among too here there =
    let one = not_before box n rank other p valid among too here there in
    let two = not_before box n other rank p valid too among there here in
    omega (arith, one, two)

-- ---- pieces

IsRegion-common : (r s : List (ℕ × ℕ)) → IsRegion r → length r ≡ length s → HaveCommonPoint r s → IsRegion (common_bounds r s)
IsRegion-common r s valid same common = record {
  axes = subst IsAxes (sym (length-common_bounds r s same)) valid.axes;
  ordered = IsOrdered-from_point (common_bounds r s) common.0 (LiesIn-common_bounds r s common.0 common.1.0 common.1.1);
  small = λ k d h.
      let inside : k < length r = omega (arith, length-common_bounds r s same) in
      subst (λ (b : ℕ × ℕ). b.1 ≤ 2 ^ 40) (sym (get_or-common_bounds r s same k d inside))
      (omega (arith, All-get_or (λ (b : ℕ × ℕ). b.1 ≤ 2 ^ 40) r k d inside valid.small));
  few = few_common r s valid same;
}

-- what is known of a piece of a header
id_small : (mask : List ℕ) (e : ℕ) (p : List ℕ) → e ≤ length mask → piece_of mask e p < 2 ^ (length mask - e)
id_small mask e p digits =
    let whole : 2 ^ length mask ≡ 2 ^ (length mask - e) * 2 ^ e = ap (λ (n : ℕ). 2 ^ n) (split digits) ∙ pow-add 2 (length mask - e) e in
    let small : z_address mask p < 2 ^ (length mask - e) * 2 ^ e = subst (λ (n : ℕ). z_address mask p < n) whole (z_address-lt mask p) in
    (div-lt_iff_lt-mul {k = 2 ^ e} {x = z_address mask p} {y = 2 ^ (length mask - e)} (pow_pos e)).1 small
  where
    split : e ≤ length mask → length mask ≡ length mask - e + e
    split h = omega arith

pub covered : (h : HeaderValue) (e id : ℕ) → IsHeader h → e ≤ length h.mask → has_piece h.mask h.box e id ≡ true → IsCovered h.mask h.box e id
covered h e id valid digits has =
    let at = point_of_piece h.mask h.box e id has in
    record {
      has = valid.covered;
      digits = digits;
      small = subst (λ (n : ℕ). n < 2 ^ (length h.mask - e)) at.1.1 (id_small h.mask e at.0 digits);
    }

length-front_box : (mask : List ℕ) (e id axes : ℕ) → axes ≡ length (front_box mask e id axes)
length-front_box mask e id axes = sym (length-map (range_with_len 0 axes) _ ∙ length-range_with_len 0 axes)

pub piece_exact : (h : HeaderValue) (e id : ℕ) → IsHeader h → e ≤ length h.mask → has_piece h.mask h.box e id ≡ true →
    HasExactly (piece_region h.mask h.box e id) (λ p. LiesIn h.box p × (piece_of h.mask e p ≡ id))
piece_exact h e id valid digits has p =
    let is = covered h e id valid digits has in
    let front = front_iff h.mask (length h.box) e id p (id_is h.mask h.box e id is) in
    let both = HasExactly-common h.box (front_box h.mask e id (length h.box)) (length-front_box h.mask e id (length h.box)) p in (
      λ inside. let two = both.0 inside in (two.0, piece_from_prefix h.mask (length h.box) e id p digits (front.0 two.1)),
      λ two. both.1 (two.0, front.1 (prefix_from_piece h.mask h.box e id p is two.0 two.1)),
    )

pub piece_is_region : (h : HeaderValue) (e id : ℕ) → IsHeader h → e ≤ length h.mask → has_piece h.mask h.box e id ≡ true →
    IsRegion (piece_region h.mask h.box e id)
piece_is_region h e id valid digits has =
    let is = covered h e id valid digits has in
    let at = point_of_piece h.mask h.box e id has in
    let front = front_iff h.mask (length h.box) e id at.0 (id_is h.mask h.box e id is) in
    IsRegion-common h.box (front_box h.mask e id (length h.box)) valid.region (length-front_box h.mask e id (length h.box))
    (at.0, (at.1.0, front.1 (prefix_from_piece h.mask h.box e id at.0 is at.1.0 at.1.1)))

pub piece_one : (h : HeaderValue) (e n : ℕ) (p : List ℕ) (piece : Piece) → IsHeader h → e ≤ length h.mask → LiesIn h.box p →
    (Contains (pieces_of h e n) piece × LiesIn piece.region p) ↔ (piece ≡ piece_at h e n (piece_of h.mask e p))
piece_one h e n p piece valid digits inside = (λ two. only two.0 two.1, λ same. some same)
  where
    ids : List ℕ
    ids = filter (has_piece h.mask h.box e) (range_with_len 0 (2 ^ (length h.mask - e)))

    only : Contains (pieces_of h e n) piece → LiesIn piece.region p → piece ≡ piece_at h e n (piece_of h.mask e p)
    only at lies =
        let from = map_out (piece_at h e n) (filter (has_piece h.mask h.box e) (range_with_len 0 (2 ^ (length h.mask - e)))) piece at in
        let passes = filter_out (has_piece h.mask h.box e) (range_with_len 0 (2 ^ (length h.mask - e))) from.0 from.1.0 in
        let here : LiesIn (piece_region h.mask h.box e from.0) p = subst (λ (q : Piece). LiesIn q.region p) (sym from.1.1) lies in
        let of : piece_of h.mask e p ≡ from.0 = ((piece_exact h e from.0 valid digits passes.1 p).0 here).1 in
        sym from.1.1 ∙ ap (piece_at h e n) (sym of)

    some : piece ≡ piece_at h e n (piece_of h.mask e p) → Contains (pieces_of h e n) piece × LiesIn piece.region p
    some same =
        let has = piece_has_point h.mask h.box e (piece_of h.mask e p) p inside refl in
        let found = map_in (piece_at h e n) (filter (has_piece h.mask h.box e) (range_with_len 0 (2 ^ (length h.mask - e)))) (piece_of h.mask e p)
        (filter_in (has_piece h.mask h.box e) (range_with_len 0 (2 ^ (length h.mask - e))) (piece_of h.mask e p)
        (range_in (2 ^ (length h.mask - e)) (piece_of h.mask e p) (id_small h.mask e p digits)) has) in
        let lies = (piece_exact h e (piece_of h.mask e p) valid digits has p).1 (inside, refl) in
        (subst (λ (q : Piece). Contains (pieces_of h e n) q) (sym same) found, subst (λ (q : Piece). LiesIn q.region p) (sym same) lies)

-- ---- the ranks of a piece

same_axes : (h : HeaderValue) (e id n rank : ℕ) → length (rank_region h.box n rank) ≡ length (piece_region h.mask h.box e id)
same_axes h e id n rank = length-rank_region h.box n rank ∙ sym (length-common_bounds h.box (front_box h.mask e id (length h.box)) (length-front_box h.mask e id (length h.box)))

ranks_known : (h : HeaderValue) (e id n rank : ℕ) → Contains (ranks_in h.box n (piece_region h.mask h.box e id)) rank ↔
    ((rank < rank_count h.box n) × HaveCommonPoint (rank_region h.box n rank) (piece_region h.mask h.box e id))
ranks_known h e id n rank =
    let test : ℕ → Bool = λ (r : ℕ). meets (rank_region h.box n r) (piece_region h.mask h.box e id) in (
      λ at. let two = filter_out test (range_with_len 0 (rank_count h.box n)) rank at in
          (range_out (rank_count h.box n) rank two.0, common_from_meets (rank_region h.box n rank) (piece_region h.mask h.box e id) (same_axes h e id n rank) two.1),
      λ two. filter_in test (range_with_len 0 (rank_count h.box n)) rank (range_in (rank_count h.box n) rank two.0)
          (meets_from_common (rank_region h.box n rank) (piece_region h.mask h.box e id) two.1),
    )

pub ranks_of_piece : (h : HeaderValue) (piece : Piece) (rank : ℕ) → IsPiece h piece → Contains piece.ranks rank ↔
    ((rank < rank_count h.box piece.of_ranks) × HaveCommonPoint (rank_region h.box piece.of_ranks rank) piece.region)
ranks_of_piece h piece rank is =
    let region : piece.region ≡ piece_region h.mask h.box is.e piece.id = ap (λ (q : Piece). q.region) is.is in
    let ranks : piece.ranks ≡ ranks_in h.box piece.of_ranks (piece_region h.mask h.box is.e piece.id) = ap (λ (q : Piece). q.ranks) is.is in
    let known = ranks_known h is.e piece.id piece.of_ranks rank in (
      λ at. let two = known.0 (subst (λ (xs : List ℕ). Contains xs rank) ranks at) in
          (two.0, subst (λ (r : List (ℕ × ℕ)). HaveCommonPoint (rank_region h.box piece.of_ranks rank) r) (sym region) two.1),
      λ two. subst (λ (xs : List ℕ). Contains xs rank) (sym ranks)
          (known.1 (two.0, subst (λ (r : List (ℕ × ℕ)). HaveCommonPoint (rank_region h.box piece.of_ranks rank) r) region two.1)),
    )

in_single : (rank other : ℕ) → Contains (rank ∷ []) other → other ≡ rank
in_single rank other (zero, h, e) = sym e
in_single rank other (suc k, h, e) = absurd (omega (arith, h))

-- a piece that no other rank has a part of is whole that rank's part
pub whole_only : (h : HeaderValue) (piece : Piece) (rank : ℕ) → IsHeader h → IsPiece h piece → ((other : ℕ) → Contains piece.ranks other → other ≡ rank) →
    part_of h piece rank ≡ piece.region
whole_only h piece rank valid is only =
    let region : piece.region ≡ piece_region h.mask h.box is.e piece.id = ap (λ (q : Piece). q.region) is.is in
    let ordered : IsOrdered piece.region = subst IsOrdered (sym region) (piece_is_region h is.e piece.id valid is.within is.some).ordered in
    let axes : length (rank_region h.box piece.of_ranks rank) ≡ length piece.region = same_axes h is.e piece.id piece.of_ranks rank ∙ ap length (sym region) in
    same_from_points (part_of h piece rank) piece.region ordered
    (λ p. (
      λ both. (both_from_common_bounds (rank_region h.box piece.of_ranks rank) piece.region p axes both).1,
      λ inside.
          let lies : LiesIn (piece_region h.mask h.box is.e piece.id) p = subst (λ (r : List (ℕ × ℕ)). LiesIn r p) region inside in
          let box = ((piece_exact h is.e piece.id valid is.within is.some p).0 lies).0 in
          let some = rank_of_point h.box piece.of_ranks p valid.region is.ranks box in
          let among = (ranks_of_piece h piece some.0 is).1 (some.1.0, (p, (some.1.1, inside))) in
          let same : some.0 ≡ rank = only some.0 among in
          LiesIn-common_bounds (rank_region h.box piece.of_ranks rank) piece.region p
          (subst (λ (r : ℕ). LiesIn (rank_region h.box piece.of_ranks r) p) same some.1.1) inside,
    ))

pub whole_part : (h : HeaderValue) (piece : Piece) (rank : ℕ) → IsHeader h → IsPiece h piece → piece.ranks ≡ rank ∷ [] → part_of h piece rank ≡ piece.region
whole_part h piece rank valid is alone =
    whole_only h piece rank valid is (λ other among. in_single rank other (subst (λ (xs : List ℕ). Contains xs other) alone among))
