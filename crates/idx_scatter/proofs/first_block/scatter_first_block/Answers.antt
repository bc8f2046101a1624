use Rattle.std.proofs.Common.{◌≡◌, ℕ, ◌+◌, ◌-◌, ◌*◌, ◌^◌, ◌≤◌, length, take, ap, refl, arith, rules}
use Rattle.std.proofs.Math.Pow.{pow_mono}
use Rattle.std.proofs.Math.Nat.{mul-le-mul_left}
use Rattle.std.proofs.lemmas.Nat.{pow_pos}
use Rattle.std.proofs.lemmas.List.{length-take-le}
use Rattle.idx_lanes.proofs.LevelLemmas.{double, level-fits}
use Rattle.idx_scatter.proofs.LevelLemmas.{first-front, level-put}
use Rattle.idx_scatter.proofs.first_block.scatter_first_block.Goals as goal
use Rattle.idx_scatter.proofs.first_block.scatter_first_block.Goals.{In-loop-level}

fits : (c : In-loop-level) → 2 * c.loop-level.put ≤ length c.args.samples.now
fits c = level-fits c.args.size c.loop-level.level c.loop-level.put c.args.bits (length c.args.samples.now) c.loop-level.invariant.front c.loop-level-test.true c.requires.samples

pub loop-level-init : goal.loop-level-init
loop-level-init c =
    let one : length (take c.args.size c.args.samples.now) ≡ c.args.size =
    length-take-le c.args.size c.args.samples.now (omega (arith, c.requires.samples, mul-le-mul_left c.args.size (pow_pos c.args.bits))) in
    record {
      front = omega arith;
      made = first-front c.args.order.now c.args.size (length (take c.args.size c.args.samples.now))
          (take c.args.size c.args.samples.now) c.args.samples.now c.args.into.now c.put_first.new.into one refl c.put_first.ensures;
    }

pub slice_bounds-scatter_by_lanes-end : goal.slice_bounds-scatter_by_lanes-end
slice_bounds-scatter_by_lanes-end c =
    let room = fits c in
    search rules

pub scatter_by_lanes-requires-clause-exists : goal.scatter_by_lanes-requires-clause-exists
scatter_by_lanes-requires-clause-exists c =
    let le : 1 ≤ length c.args.order.now.mask - c.loop-level.level = omega (arith, c.requires.bits, c.loop-level-test.true) in
    let power : 2 ^ 1 ≤ 2 ^ (length c.args.order.now.mask - c.loop-level.level) = pow_mono le in
    omega (arith, power)

pub loop-level-preserved : goal.loop-level-preserved
loop-level-preserved c =
    let size : ℕ = c.args.size in
    let put : ℕ = c.loop-level.put in
    let same : 2 * put - put ≡ put = omega arith in
    let twice : size * (2 ^ c.loop-level.level + 2 ^ c.loop-level.level) ≡ size * 2 ^ c.loop-level.level + size * 2 ^ c.loop-level.level = grind arith in
    record {
      front = omega (arith, c.loop-level.invariant.front, ap (λ m. size * m) (double c.loop-level.level), twice);
      made = level-put c.args.order.now size c.loop-level.level put (2 * put - put) c.args.samples.now c.args.into.now c.loop-level.into c.scatter_by_lanes.new.into
          c.loop-level.invariant.front same c.loop-level.invariant.made c.scatter_by_lanes.ensures;
    }
