use Rattle.std.proofs.Common.{ℕ, leb, refl, sym, ap, ◌∙◌, arith}
use Rattle.std.specs.Prelude.{min, nat_lt}
use Rattle.std.proofs.lemmas.Bool.{false_from_ne_true, leb-true}
use Rattle.idx_plan.proofs.NeededLemmas.{is_needed-first, is_needed-finer}
use Rattle.idx_plan.proofs.keys.needs_first_block.Goals as goal

pub returns-then-ask-bits : goal.returns-then-ask-bits
returns-then-ask-bits c =
    ap (nat_lt 0) c.points_between.ensures.count
    ∙ is_needed-first c.args.header.now c.args.ask.now c.args.ask.now.lo c.min.result refl
    (c.min.ensures ∙ ap (min c.args.ask.now.hi) c.bits_per_block-bits.ensures.value)

pub returns-else-ask-bits : goal.returns-else-ask-bits
returns-else-ask-bits c =
    let lo : ℕ = c.args.ask.now.lo in
    let bits : ℕ = c.bits_per_block-bits.result in
    false_from_ne_true (leb lo bits) (λ e. omega (arith, leb-true lo bits e, c.if-ask-bits.false))
    ∙ sym (is_needed-finer c.args.header.now c.args.ask.now (omega (arith, c.bits_per_block-bits.ensures.value, c.if-ask-bits.false)))
