use Rattle.std.proofs.Common.{slice_set, ◌≡◌, ℕ, ◌+◌, ◌-◌, Some, get_or, ap, refl, arith}
use Rattle.idx_plan.specs.declared.branch.Branch.{Branch}
use Rattle.idx_plan.specs.declared.part.Part.{Part}
use Rattle.idx_plan.specs.Branches.{level_of}
use Rattle.idx_plan.specs.Parts.{IsSpan}
use Rattle.idx_plan.proofs.DescentLemmas.{both_added, branch_small, half_added, half_of_branch, key_added, no_half, step_of}
use Rattle.idx_plan.proofs.PartLemmas.{IsHalf, empty_half, half_made, half_part, step_span}
use Rattle.idx_plan.proofs.descent.+descend.Goals as goal

pub returns-then-branch-eq0 : goal.returns-then-branch-eq0
returns-then-branch-eq0 t c =
    key_added c.args.mask.now c.args.ask.now c.args.branch c.args.part.now c.args.keys.now.items c.push.new.self.items c.key_of.result c.requires.address c.requires.branch c.if-branch-eq0.true c.requires.part
    c.key_of.ensures c.in_ok-push.ensures.items

pub half_of-first-requires-clause-span : goal.half_of-first-requires-clause-span
half_of-first-requires-clause-span t c =
    let b = c.args.branch in
    let step = step_of c.args.mask.now c.args.ask.now.region b c.axis-axis.result c.loop-bit.bit c.requires.address c.requires.branch c.if-branch-eq0.false c.axis-axis.ensures.value c.loop-bit-test.true in
    (step_span c.args.mask.now c.args.ask.now.region (level_of b) b.digits b.number c.args.part.now c.axis-axis.result c.loop-bit.bit step c.requires.part).0

pub half_of-first-requires-clause-some : goal.half_of-first-requires-clause-some
half_of-first-requires-clause-some t c =
    let b = c.args.branch in
    let step = step_of c.args.mask.now c.args.ask.now.region b c.axis-axis.result c.loop-bit.bit c.requires.address c.requires.branch c.if-branch-eq0.false c.axis-axis.ensures.value c.loop-bit-test.true in
    (step_span c.args.mask.now c.args.ask.now.region (level_of b) b.digits b.number c.args.part.now c.axis-axis.result c.loop-bit.bit step c.requires.part).1

pub loop-bit-preserved-then-end-first : goal.loop-bit-preserved-then-end-first
loop-bit-preserved-then-end-first t c =
    let b = c.args.branch in
    let mask = c.args.mask.now in
    let region = c.args.ask.now.region in
    let step = step_of mask region b c.axis-axis.result c.loop-bit.bit c.requires.address c.requires.branch c.if-branch-eq0.false c.axis-axis.ensures.value c.loop-bit-test.true in
    no_half mask c.args.ask.now b c.loop-bit.bit (c.loop-bit.bit + 1) c.args.keys.now.items c.loop-bit.keys.items c.requires.address c.requires.branch c.if-branch-eq0.false c.loop-bit-test.true refl
    (empty_half mask region (level_of b) b.digits b.number c.args.part.now c.axis-axis.result c.loop-bit.bit c.half_of-first.result.0 c.half_of-first.result.1 step c.requires.part c.if-end-first.true c.half_of-first.ensures.numbers)
    c.loop-bit.invariant

pub overflow_sub-half : goal.overflow_sub-half
overflow_sub-half t c =
    let b = c.args.branch in
    let step = step_of c.args.mask.now c.args.ask.now.region b c.axis-axis.result c.loop-bit.bit c.requires.address c.requires.branch c.if-branch-eq0.false c.axis-axis.ensures.value c.loop-bit-test.true in
    (step_span c.args.mask.now c.args.ask.now.region (level_of b) b.digits b.number c.args.part.now c.axis-axis.result c.loop-bit.bit step c.requires.part).1

pub half-requires-clause-number : goal.half-requires-clause-number
half-requires-clause-number t c = branch_small c.args.mask.now c.args.branch c.requires.mask.few c.requires.branch

pub descend-requires : goal.descend-requires
descend-requires t c =
    let b = c.args.branch in
    let mask = c.args.mask.now in
    let region = c.args.ask.now.region in
    let part = c.args.part.now in
    let axis : ℕ = c.axis-axis.result in
    let bit : ℕ = c.loop-bit.bit in
    let left : ℕ = get_or part.left axis 0 - 1 in
    let step = step_of mask region b axis bit c.requires.address c.requires.branch c.if-branch-eq0.false c.axis-axis.ensures.value c.loop-bit-test.true in
    let before = step_span mask region (level_of b) b.digits b.number part axis bit step c.requires.part in
    let span : IsSpan c.half_of-first.result.0 c.half_of-first.result.1 left = record {
      some = c.if-end-first.false;
      whole = c.half_of-first.ensures.whole;
      few = omega (arith, before.0.few);
      small = c.half_of-first.ensures.small;
    } in
    let half : Part = record {
      first = slice_set part.first axis c.half_of-first.result.0;
      end = slice_set part.end axis c.half_of-first.result.1;
      left = slice_set part.left axis left;
    } in
    let is : IsHalf part axis bit half =
    half_made part half axis bit c.half_of-first.result.0 c.half_of-first.result.1 left (omega arith) (omega arith) (omega arith)
    refl refl refl refl span c.half_of-first.ensures.numbers in
    let both = half_of_branch mask region b c.half.result bit (Some half) c.half.ensures c.if-branch-eq0.false c.loop-bit-test.true c.requires.branch
    (half_part mask region (level_of b) b.digits b.number part axis bit half step c.requires.part is) in
    let lower : c.half.result.height ≡ b.height - 1 = ap (λ (x : Branch). x.height) c.half.ensures in
    (omega arith, (c.requires.mask, (c.requires.address, (both.0, both.1))))

pub loop-bit-preserved : goal.loop-bit-preserved
loop-bit-preserved t c =
    half_added c.args.mask.now c.args.ask.now c.args.branch c.half.result c.loop-bit.bit (c.loop-bit.bit + 1) c.args.keys.now.items c.loop-bit.keys.items c.descend.new.keys.items
    c.if-branch-eq0.false c.half.ensures refl c.loop-bit.invariant c.in_ok-descend.ensures

pub returns : goal.returns
returns t c =
    both_added c.args.mask.now c.args.ask.now c.args.branch c.loop-bit.bit c.args.keys.now.items c.loop-bit.keys.items c.if-branch-eq0.false
    (omega (arith, c.loop-bit-test.false, c.loop-bit.auto.bit-end)) c.loop-bit.invariant
