use Rattle.std.proofs.Common.{◌≡◌, ◌+◌, ◌*◌, ◌/◌, ◌<◌, ℕ, length, ap, ◌∙◌, arith, refl}
use Rattle.std.specs.Prelude.{min}
use Rattle.std.proofs.lemmas.List.{length-map}
use Rattle.idx_grid.proofs.GridLemmas.{lower_at}
use Rattle.idx_pieces.specs.Ranks.{rank_count}
use Rattle.idx_pieces.proofs.RankLemmas.{IsRankPart, cut_is, rank_part}
use Rattle.idx_pieces.proofs.regions.rank_region.Goals as goal
use Rattle.idx_pieces.proofs.regions.rank_region.Goals.{After-get-first}

pub get-first-requires : goal.get-first-requires
get-first-requires c =
    let cut = cut_is c.args.region.now (omega (arith, c.cut_of-cut.ensures.valid.axes.0)) c.cut_of-cut.ensures.valid.ordered in
    let long : length c.lo.result ≡ length c.args.region.now = ap length c.lo.ensures ∙ length-map c.args.region.now (λ (b : ℕ × ℕ). b.0) in
    omega (arith, c.cut_of-cut.ensures.axis, cut.within, long)

-- the part, before its shares are known
part : (c : After-get-first) (before behind : ℕ) → before ≡ c.args.rank * c.cut_of-cut.result.extent / c.min-count.result →
    behind ≡ (c.args.rank + 1) * c.cut_of-cut.result.extent / c.min-count.result →
    IsRankPart c.args.region.now c.args.n c.args.rank c.cut_of-cut.result.axis c.get-first.result before behind
part c before behind here there =
    let box = c.args.region.now in
    let valid = c.cut_of-cut.ensures.valid in
    let cut = cut_is box (omega (arith, valid.axes.0)) valid.ordered in
    let inside : c.cut_of-cut.result.axis < length box = omega (arith, c.cut_of-cut.ensures.axis, cut.within) in
    let count : c.min-count.result ≡ rank_count box c.args.n =
    c.min-count.ensures ∙ ap (λ (m : ℕ). min m c.cut_of-cut.result.extent) c.from.ensures ∙ ap (λ (m : ℕ). min c.args.n m) c.cut_of-cut.ensures.extent in
    rank_part box c.args.n c.args.rank c.cut_of-cut.result.axis c.min-count.result c.get-first.result before behind valid c.requires
    c.cut_of-cut.ensures.axis count (lower_at box c.lo.result c.cut_of-cut.result.axis c.get-first.result inside c.lo.ensures c.get-first.ensures.value)
    (here ∙ ap (λ (m : ℕ). c.args.rank * m / c.min-count.result) c.cut_of-cut.ensures.extent)
    (there ∙ ap (λ (m : ℕ). (c.args.rank + 1) * m / c.min-count.result) c.cut_of-cut.ensures.extent)

pub share-requires-clause-few : goal.share-requires-clause-few
share-requires-clause-few c =
    let p = part (goal.at.share-requires-clause-few c).After-get-first _ _ refl refl in
    omega (arith, p.wide, c.cut_of-cut.ensures.extent)

pub overflow_add-from : goal.overflow_add-from
overflow_add-from c =
    let p = part (goal.at.overflow_add-from c).After-get-first c.share.result _ c.share.ensures.value refl in
    omega (arith, p.fits)

pub share-requires-2-clause-few : goal.share-requires-2-clause-few
share-requires-2-clause-few c =
    let p = part (goal.at.share-requires-2-clause-few c).After-get-first _ _ refl refl in
    omega (arith, p.wide, c.cut_of-cut.ensures.extent)

pub overflow_add-to : goal.overflow_add-to
overflow_add-to c =
    let p = part (goal.at.overflow_add-to c).After-get-first _ c.share-2.result refl c.share-2.ensures.value in
    omega (arith, p.fits_too)

pub bounded_on-requires-clause-axis : goal.bounded_on-requires-clause-axis
bounded_on-requires-clause-axis c =
    let p = part (goal.at.bounded_on-requires-clause-axis c).After-get-first _ _ refl refl in p.inside

pub bounded_on-requires-clause-high : goal.bounded_on-requires-clause-high
bounded_on-requires-clause-high c =
    let p = part (goal.at.bounded_on-requires-clause-high c).After-get-first c.share.result c.share-2.result c.share.ensures.value c.share-2.ensures.value in p.within.high

pub returns : goal.returns
returns c =
    let p = part (goal.at.returns c).After-get-first c.share.result c.share-2.result c.share.ensures.value c.share-2.ensures.value in
    c.bounded_on.ensures ∙ p.is
