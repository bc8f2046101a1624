use Rattle.std.proofs.Common.{ℕ, ◌+◌, ◌-◌, ◌^◌, ◌≤◌, length, sym, ◌∙◌, arith}
use Rattle.std.proofs.Math.Pow.{pow_mono}
use Rattle.idx_layout.specs.Runs.{first_of_run}
use Rattle.idx_layout.proofs.RunLemmas.{first_half, halves_exist, one_lower, second_half, small_halves}
use Rattle.idx_layout.proofs.next_block.first_block.Goals as goal

pub overflow_mul-number : goal.overflow_mul-number
overflow_mul-number c =
    let mask = c.args.mask.now in
    let height : ℕ = c.loop-height.height in
    let half = one_lower mask c.args.region.now c.args.bits (first_of_run c.args.run.now) height c.loop-height.number (omega (arith, c.loop-height-test.true)) c.loop-height.invariant.half in
    omega (arith, small_halves mask c.args.region.now c.args.bits (first_of_run c.args.run.now) (height - 1) c.loop-height.number c.requires.few half)

pub overflow_add-bits : goal.overflow_add-bits
overflow_add-bits c = omega (arith, c.loop-height.invariant.half.within, c.requires.few)

pub has_point_in-requires-clause-exists : goal.has_point_in-requires-clause-exists
has_point_in-requires-clause-exists c =
    let mask = c.args.mask.now in
    let height : ℕ = c.loop-height.height in
    let half = one_lower mask c.args.region.now c.args.bits (first_of_run c.args.run.now) height c.loop-height.number (omega (arith, c.loop-height-test.true)) c.loop-height.invariant.half in
    omega (arith, halves_exist mask c.args.bits (height - 1) c.loop-height.number half.within half.exists)

pub overflow_add-number : goal.overflow_add-number
overflow_add-number c =
    let mask = c.args.mask.now in
    let height : ℕ = c.loop-height.height in
    let half = one_lower mask c.args.region.now c.args.bits (first_of_run c.args.run.now) height c.loop-height.number (omega (arith, c.loop-height-test.true)) c.loop-height.invariant.half in
    omega (arith, small_halves mask c.args.region.now c.args.bits (first_of_run c.args.run.now) (height - 1) c.loop-height.number c.requires.few half)

pub loop-height-preserved-then-not-has_point_in : goal.loop-height-preserved-then-not-has_point_in
loop-height-preserved-then-not-has_point_in c =
    let mask = c.args.mask.now in
    let height : ℕ = c.loop-height.height in
    let half = one_lower mask c.args.region.now c.args.bits (first_of_run c.args.run.now) height c.loop-height.number (omega (arith, c.loop-height-test.true)) c.loop-height.invariant.half in
    record {
      half = second_half mask c.args.region.now c.args.bits (first_of_run c.args.run.now) (height - 1) c.loop-height.number half (sym c.has_point_in.ensures ∙ c.if-not-has_point_in.true);
      height = omega (arith, c.loop-height.invariant.height);
    }

pub loop-height-preserved : goal.loop-height-preserved
loop-height-preserved c =
    let mask = c.args.mask.now in
    let height : ℕ = c.loop-height.height in
    let half = one_lower mask c.args.region.now c.args.bits (first_of_run c.args.run.now) height c.loop-height.number (omega (arith, c.loop-height-test.true)) c.loop-height.invariant.half in
    record {
      half = first_half mask c.args.region.now c.args.bits (first_of_run c.args.run.now) (height - 1) c.loop-height.number half (sym c.has_point_in.ensures ∙ c.if-not-has_point_in.false);
      height = omega (arith, c.loop-height.invariant.height);
    }

pub returns-clause-few : goal.returns-clause-few
returns-clause-few c =
    let digits : length c.args.mask.now - (c.args.bits + c.loop-height.height) ≤ 40 = omega (arith, c.requires.few) in
    let most : 2 ^ (length c.args.mask.now - (c.args.bits + c.loop-height.height)) ≤ 2 ^ 40 = pow_mono digits in
    omega (arith, most, c.loop-height.invariant.half.exists)
