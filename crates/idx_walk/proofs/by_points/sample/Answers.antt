use Rattle.std.proofs.Common.{◌≡◌, ◌+◌, ◌-◌, ◌*◌, ◌≤◌, ◌∙◌, ℕ, length, take, drop, ap, sym, arith, rules}
use Rattle.std.proofs.lemmas.Nat.{row_fits}
use Rattle.std.proofs.lemmas.Option.{slice_get_within}
use Rattle.idx_geom.specs.Region.{points}
use Rattle.std.proofs.Math.Nat.{mul_comm}
use Rattle.idx_walk.proofs.WalkLemmas.{sample_at-raw}
use Rattle.idx_walk.proofs.by_points.sample.Goals as goal
use Rattle.idx_walk.proofs.by_points.sample.Goals.{After-rank_of}

fits : (c : After-rank_of) → c.rank_of.result * c.args.size + c.args.size ≤ length c.args.raw.now
fits c =
    let below = slice_get_within (points c.args.extent.now) c.rank_of.result c.args.p.now c.rank_of.ensures.found in
    let room = row_fits c.rank_of.result c.args.size (length (points c.args.extent.now)) c.args.size below (omega arith) in
    omega (arith, room, c.requires.whole, mul_comm c.args.size (length (points c.args.extent.now)))

pub overflow_mul-start : goal.overflow_mul-start
overflow_mul-start c = omega (arith, fits (goal.at.overflow_mul-start c).After-rank_of)

pub overflow_add-result : goal.overflow_add-result
overflow_add-result c = omega (arith, fits (goal.at.overflow_add-result c).After-rank_of)

pub slice_bounds-result-end : goal.slice_bounds-result-end
slice_bounds-result-end c =
    let room = fits (goal.at.slice_bounds-result-end c).After-rank_of in
    search rules

pub returns : goal.returns
returns c =
    let at : ℕ = c.rank_of.result * c.args.size in
    let count : (at + c.args.size) - at ≡ c.args.size = omega arith in
    ap (λ n. take n (drop at c.args.raw.now)) count
    ∙ ap (λ n. take c.args.size (drop n c.args.raw.now)) (mul_comm c.rank_of.result c.args.size ∙ ap (λ n. c.args.size * n) c.rank_of.ensures.place)
    ∙ sym (sample_at-raw c.args.extent.now c.args.size c.args.raw.now c.args.p.now c.requires.inside)
