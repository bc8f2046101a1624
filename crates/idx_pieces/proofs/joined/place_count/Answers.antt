use Rattle.std.proofs.Common.{◌≡◌, ◌+◌, ◌-◌, ℕ, length, drop, sym, ap, ◌∙◌, arith}
use Rattle.std.proofs.lemmas.List.{drop_all}
use Rattle.idx_geom.proofs.PointsLemmas.{length-points, size}
use Rattle.idx_pieces.specs.Ranks.{cut_axis}
use Rattle.idx_pieces.proofs.JoinSteps.{places_step}
use Rattle.idx_pieces.proofs.RankLemmas.{cut_is, ends_at}
use Rattle.idx_pieces.proofs.joined.place_count.Goals as goal

pub overflow_add-cut : goal.overflow_add-cut
overflow_add-cut c =
    let cut = cut_is c.region.result (omega (arith, c.cut_of-cut.ensures.valid.axes.0)) c.cut_of-cut.ensures.valid.ordered in
    omega (arith, cut.within, c.cut_of-cut.ensures.axis, c.cut_of-cut.ensures.valid.axes.1)

pub overflow_add-axis-start : goal.overflow_add-axis-start
overflow_add-axis-start c =
    let cut = cut_is c.region.result (omega (arith, c.cut_of-cut.ensures.valid.axes.0)) c.cut_of-cut.ensures.valid.ordered in
    omega (arith, cut.within, c.cut_of-cut.ensures.axis, c.cut_of-cut.ensures.valid.axes.1)

pub loop-axis-init : goal.loop-axis-init
loop-axis-init c =
    let cut = cut_is c.region.result (omega (arith, c.cut_of-cut.ensures.valid.axes.0)) c.cut_of-cut.ensures.valid.ordered in
    let box : length c.region.result ≡ length c.args.header.now.box = ap length c.region.ensures.value in
    record {
      count = sym (ap size (drop_all c.axes-axis.result c.args.piece.now.region (omega (arith, c.axes-axis.ensures.count))));
      from = omega (arith, cut.within, box, c.requires, c.axes-axis.ensures.count, ap cut_axis c.region.ensures.value);
    }

pub returns-clause-count : goal.returns-clause-count
returns-clause-count c =
    let same : c.loop-axis.axis ≡ cut_axis c.args.header.now.box + 1 =
    omega (arith, c.loop-axis.invariant.from, c.loop-axis-test.false, c.cut_of-cut.ensures.axis, ap cut_axis c.region.ensures.value) in
    c.loop-axis.invariant.count ∙ ap (λ (k : ℕ). size (drop k c.args.piece.now.region)) same ∙ sym (length-points (drop (cut_axis c.args.header.now.box + 1) c.args.piece.now.region))

pub loop-axis-preserved : goal.loop-axis-preserved
loop-axis-preserved c =
    let region = c.args.piece.now.region in
    let valid = c.axes-axis.ensures.valid in
    let ends = ends_at region c.lo-lo.result c.hi-hi.result (c.loop-axis.axis - 1) c.get-in-loop-axis.result c.get.result (omega (arith, c.axes-axis.ensures.count)) valid.ordered
    c.lo-lo.ensures c.hi-hi.ensures c.get-in-loop-axis.ensures.value c.get.ensures.value in
    let step = places_step region c.loop-axis.count c.loop-axis.axis c.get-in-loop-axis.result c.get.result (omega arith) (omega (arith, c.axes-axis.ensures.count)) valid.ordered valid.few c.loop-axis.invariant.count ends in
    record {
      count = step.0;
      from = omega (arith, c.loop-axis-test.true, c.cut_of-cut.ensures.axis, ap cut_axis c.region.ensures.value);
    }

pub overflow_mul-count : goal.overflow_mul-count
overflow_mul-count c =
    let region = c.args.piece.now.region in
    let valid = c.axes-axis.ensures.valid in
    let ends = ends_at region c.lo-lo.result c.hi-hi.result (c.loop-axis.axis - 1) c.get-in-loop-axis.result c.get.result (omega (arith, c.axes-axis.ensures.count)) valid.ordered
    c.lo-lo.ensures c.hi-hi.ensures c.get-in-loop-axis.ensures.value c.get.ensures.value in
    let step = places_step region c.loop-axis.count c.loop-axis.axis c.get-in-loop-axis.result c.get.result (omega arith) (omega (arith, c.axes-axis.ensures.count)) valid.ordered valid.few c.loop-axis.invariant.count ends in
    omega (arith, step.1)

pub overflow_sub-count : goal.overflow_sub-count
overflow_sub-count c =
    let region = c.args.piece.now.region in
    let ends = ends_at region c.lo-lo.result c.hi-hi.result (c.loop-axis.axis - 1) c.get-in-loop-axis.result c.get.result (omega (arith, c.axes-axis.ensures.count)) c.axes-axis.ensures.valid.ordered
    c.lo-lo.ensures c.hi-hi.ensures c.get-in-loop-axis.ensures.value c.get.ensures.value in
    omega (arith, ends.ordered)
