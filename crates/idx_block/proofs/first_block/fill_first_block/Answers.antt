use Rattle.std.proofs.Common.{◌≡◌, ℕ, ◌+◌, ◌-◌, ◌*◌, ◌^◌, ◌≤◌, List, ◌++◌, length, length-append, length-drop, take, drop, ap, ◌∙◌, arith, rules}
use Rattle.std.proofs.Math.Pow.{pow_mono}
use Rattle.std.proofs.lemmas.List.{length-take-le}
use Rattle.std.proofs.Math.Nat.{mul-le-mul_left}
use Rattle.std.proofs.lemmas.Nat.{pow_pos}
use Rattle.idx_block.specs.Stored.{stored}
use Rattle.idx_lanes.proofs.CopyLemmas.{length-part}
use Rattle.idx_block.proofs.FirstLemmas.{level-more, level-none}
use Rattle.idx_lanes.proofs.LevelLemmas.{double, level-fits}
use Rattle.idx_block.proofs.first_block.fill_first_block.Goals as goal
use Rattle.idx_block.proofs.first_block.fill_first_block.Goals.{In-loop-level}

fits : (c : In-loop-level) → 2 * c.loop-level.filled ≤ length c.loop-level.into
fits c =
    let size : ℕ = c.args.size in
    let old : List ℕ = c.args.into.now in
    let one : length (take size old) ≡ size = length-take-le size old (omega (arith, c.requires.room, mul-le-mul_left size (pow_pos c.args.bits))) in
    let whole : length (c.put_sample.new.into ++ drop size old) ≡ size * 2 ^ c.args.bits =
    omega (arith, length-append c.put_sample.new.into (drop size old), length-drop size old, c.put_sample.auto.into, one, c.requires.room, mul-le-mul_left size (pow_pos c.args.bits)) in
    level-fits size c.loop-level.level c.loop-level.filled c.args.bits (length c.loop-level.into) c.loop-level.invariant.front c.loop-level-test.true (c.loop-level.auto.into ∙ whole)

pub loop-level-init : goal.loop-level-init
loop-level-init c =
    let one : length (take c.args.size c.args.into.now) ≡ c.args.size =
    length-take-le c.args.size c.args.into.now (omega (arith, c.requires.room, mul-le-mul_left c.args.size (pow_pos c.args.bits))) in
    record {
      front = omega arith;
      made = level-none (stored c.args.mask.now c.args.region.now c.args.size c.args.samples.now) c.args.size c.args.into.now c.put_sample.new.into (c.put_sample.auto.into ∙ one)
          (c.put_sample.ensures ∙ ap (λ n. stored c.args.mask.now c.args.region.now n c.args.samples.now 0) one);
    }

pub slice_bounds-fill_by_lanes-end : goal.slice_bounds-fill_by_lanes-end
slice_bounds-fill_by_lanes-end c =
    let room = fits c in
    search rules

pub fill_by_lanes-requires-clause-exists : goal.fill_by_lanes-requires-clause-exists
fill_by_lanes-requires-clause-exists c =
    let le : 1 ≤ length c.args.mask.now - c.loop-level.level = omega (arith, c.requires.bits, c.loop-level-test.true) in
    let power : 2 ^ 1 ≤ 2 ^ (length c.args.mask.now - c.loop-level.level) = pow_mono le in
    omega (arith, power)

pub loop-level-preserved : goal.loop-level-preserved
loop-level-preserved c =
    let size : ℕ = c.args.size in
    let filled : ℕ = c.loop-level.filled in
    let room = fits (goal.at.loop-level-preserved c).In-loop-level in
    let n : ℕ = 2 * filled - filled in
    let same : n ≡ filled = omega arith in
    let part : length (take n (drop filled c.loop-level.into)) ≡ filled = length-part filled n filled c.loop-level.into same (omega (arith, room)) in
    let twice : size * (2 ^ c.loop-level.level + 2 ^ c.loop-level.level) ≡ size * 2 ^ c.loop-level.level + size * 2 ^ c.loop-level.level = grind arith in
    record {
      front = omega (arith, c.loop-level.invariant.front, ap (λ m. size * m) (double c.loop-level.level), twice);
      made = level-more (stored c.args.mask.now c.args.region.now size c.args.samples.now) size c.loop-level.level filled n c.loop-level.into c.fill_by_lanes.new.into
          c.loop-level.invariant.front same (c.fill_by_lanes.auto.into ∙ part) (omega (arith, room)) c.loop-level.invariant.made c.fill_by_lanes.ensures;
    }
