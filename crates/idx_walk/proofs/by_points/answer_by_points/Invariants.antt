use Rattle.std.proofs.Common.{◌≡◌, ◌++◌, length}
use Rattle.idx_geom.specs.Region.{points}
use Rattle.idx_geom.specs.Volume.{samples_of}
use Rattle.idx_hz.specs.Answer.{answer}
use Rattle.idx_walk.proofs.PointByPoint.{rest_of_answer}
use Rattle.idx_walk.proofs.by_points.answer_by_points.Given as goal

abbrev pub invariant-loop-place : goal.invariant-loop-place
invariant-loop-place l =
    let volume = samples_of l.size (length (points l.extent)) l.raw in
    l.samples ++ rest_of_answer l.mask l.extent volume l.region l.levels.0 l.levels.1 l.place ≡ answer l.mask l.extent volume l.region l.levels.0 l.levels.1
