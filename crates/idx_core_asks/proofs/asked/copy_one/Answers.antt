use Rattle.std.proofs.Common.{◌≡◌, List, ℕ, Some, length, sym, ap, ◌∙◌, subst}
use Rattle.std.specs.Prelude.{option_copied}
use Rattle.idx_scatter.specs.Scatter.{IsScattered}
use Rattle.idx_core_asks.proofs.HeldLemmas.{held-one, nothing-missing, whole-one}
use Rattle.idx_core_asks.proofs.asked.copy_one.Goals as goal

pub unreachable-requires : goal.unreachable-requires
unreachable-requires c =
    nothing-missing c.args.plan.now c.args.held.now c.keys.result.now c.keys.ensures c.requires.whole c.args.i c.requires.key c.requires.some
    (sym c.find_block.ensures ∙ ap option_copied c.in_default.is)

pub copy-requires-clause-block : goal.copy-requires-clause-block
copy-requires-clause-block c =
    ap length (c.as_slice.ensures ∙ c.deref.ensures ∙ c.bytes.ensures)
    ∙ whole-one c.args.plan.now c.args.held.now c.keys.result.now c.keys.ensures c.requires.whole c.args.i c.requires.key c.in-Some.block.now (sym c.find_block.ensures ∙ ap option_copied c.in-Some.is)

pub returns-clause-copied : goal.returns-clause-copied
returns-clause-copied c = λ k at.
    subst (λ (bytes : List ℕ). IsScattered c.args.plan.now.asked c.args.plan.now.bits k.block c.args.plan.now.size bytes c.args.out.now c.copy.new.out)
    (c.as_slice.ensures ∙ c.deref.ensures ∙ c.bytes.ensures
    ∙ held-one c.args.plan.now c.args.held.now c.keys.result.now c.keys.ensures c.requires.whole c.args.i c.requires.key c.in-Some.block.now (sym c.find_block.ensures ∙ ap option_copied c.in-Some.is) k at)
    (c.copy.ensures k at)
