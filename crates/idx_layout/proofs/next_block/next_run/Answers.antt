use Rattle.std.proofs.Common.{◌≡◌, ℕ, ◌-◌, ◌^◌, ◌<◌, ◌≤◌, length, sym, ap, ◌∙◌, arith}
use Rattle.std.proofs.Math.Pow.{pow_mono}
use Rattle.std.proofs.lemmas.Nat.{pow_pos}
use Rattle.idx_layout.specs.Runs.{first_of_run}
use Rattle.idx_layout.proofs.PresentLemmas.{shifted}
use Rattle.idx_layout.proofs.RunLemmas.{begins_past, begins_within, none_before_next}
use Rattle.idx_layout.proofs.next_block.next_run.Goals as goal

pub behind-run-requires-clause-number : goal.behind-run-requires-clause-number
behind-run-requires-clause-number c =
    let digits : ℕ = c.len.result - c.args.bits in
    let few : digits - c.loop-run.run.height ≤ 40 = omega (arith, c.len.ensures.count, c.len.ensures.valid.few) in
    let top = shifted (digits - c.loop-run.run.height) few in
    let most : 2 ^ (digits - c.loop-run.run.height) ≤ 2 ^ 40 = pow_mono few in
    omega (arith, top, most, c.loop-run-test.true)

pub loop-run-smaller : goal.loop-run-smaller
loop-run-smaller c =
    let digits : ℕ = c.len.result - c.args.bits in
    let height : ℕ = c.loop-run.run.height in
    let few : digits - height ≤ 40 = omega (arith, c.len.ensures.count, c.len.ensures.valid.few) in
    let inside : c.loop-run.run.number < 2 ^ (digits - height) = omega (arith, shifted (digits - height) few, c.loop-run-test.true) in
    let ends = begins_within c.loop-run.run.number height digits c.loop-run.invariant.height inside in
    let some : 1 ≤ 2 ^ height = pow_pos height in
    omega (arith, ends, some, c.behind-run.ensures.begins)

pub loop-run-preserved : goal.loop-run-preserved
loop-run-preserved c = record {
  height = c.behind-run.ensures.height;
  from = omega (arith, c.loop-run.invariant.from, c.behind-run.ensures.begins);
  before = none_before_next c.args.mask.now c.args.region.now c.args.bits c.args.from c.loop-run.run.height c.loop-run.run.number (first_of_run c.behind-run.result)
      c.loop-run.invariant.before (sym c.has_point_in.ensures ∙ c.if-has_point_in.false) c.behind-run.ensures.begins;
}

pub returns-clause-none : goal.returns-clause-none
returns-clause-none c block low high =
    let digits : ℕ = c.len.result - c.args.bits in
    let height : ℕ = c.loop-run.run.height in
    let few : digits - height ≤ 40 = omega (arith, c.len.ensures.count, c.len.ensures.valid.few) in
    let past : 2 ^ (digits - height) ≤ c.loop-run.run.number = omega (arith, shifted (digits - height) few, c.loop-run-test.false) in
    let ends : 2 ^ digits ≤ first_of_run c.loop-run.run = begins_past c.loop-run.run.number height digits c.loop-run.invariant.height past in
    let same : 2 ^ digits ≡ 2 ^ (length c.args.mask.now - c.args.bits) = ap (λ (n : ℕ). 2 ^ (n - c.args.bits)) c.len.ensures.count in
    c.loop-run.invariant.before block low (omega (arith, high, same, ends))
