use Rattle.std.proofs.Common.{◌+◌, ◌∙◌, ◌++◌, cond, [], length, ap, sym}
use Rattle.idx_geom.specs.Region.{points}
use Rattle.idx_geom.specs.Volume.{samples_of, sample_at}
use Rattle.idx_geom.proofs.LiesInLemmas.{HoldsAll-from_ends}
use Rattle.idx_hz.proofs.RegionLemmas.{HasAddress-from_end}
use Rattle.idx_walk.proofs.PointByPoint.{rest_of_answer, answer-step, answer-skip}
use Rattle.idx_walk.proofs.by_points.answer_by_points.Goals as goal
use Rattle.idx_walk.proofs.by_points.answer_by_points.Goals.{then-has_level+in_ok-append, else-has_level}

pub has_level-requires : goal.has_level-requires
has_level-requires c =
    HasAddress-from_end c.args.mask.now c.args.extent.now c.point_at-p.result c.requires.masked
    (HoldsAll-from_ends c.args.extent.now c.args.region.now c.requires.lower c.requires.upper c.point_at-p.result c.point_at-p.ensures.inside)

pub sample-requires-clause-inside : goal.sample-requires-clause-inside
sample-requires-clause-inside c =
    HoldsAll-from_ends c.args.extent.now c.args.region.now c.requires.lower c.requires.upper c.point_at-p.result c.point_at-p.ensures.inside

pub loop-place-preserved : goal.loop-place-preserved
loop-place-preserved c =
    let mask = c.args.mask.now in
    let es = c.args.extent.now in
    let bs = c.args.region.now in
    let lo = c.args.levels.0 in
    let hi = c.args.levels.1 in
    let p = c.point_at-p.result in
    let volume = samples_of c.args.size (length (points es)) c.args.raw.now in
    let place = c.loop-place.place in
    elim c.if-has_level.branch [
      | then-has_level+in_ok-append w ↦
          let passes = sym c.has_level.ensures ∙ w.if-has_level.true in
          ap (λ t. t ++ rest_of_answer mask es volume bs lo hi (place + 1)) (w.samples-is ∙ w.in_ok-append.ensures.ok)
          ∙ answer-step mask es volume bs lo hi place p c.loop-place.samples w.sample.result.now c.point_at-p.ensures.point
          (ap (λ b. cond b (sample_at es volume p) []) passes ∙ sym w.sample.ensures)
          ∙ c.loop-place.invariant
      | else-has_level w ↦
          ap (λ t. t ++ rest_of_answer mask es volume bs lo hi (place + 1)) w.samples-is
          ∙ answer-skip mask es volume bs lo hi place p c.loop-place.samples c.point_at-p.ensures.point (sym c.has_level.ensures ∙ w.if-has_level.false)
          ∙ c.loop-place.invariant
    ]
