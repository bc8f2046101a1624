use Rattle.std.proofs.Common.{◌≡◌, ℕ, ◌≤◌, List, length, sym, ap, ◌∙◌, subst}
use Rattle.std.proofs.lemmas.List.{length-replicate}
use Rattle.idx_plan.specs.Plan.{IsPlan, PlanValue}
use Rattle.idx_query.specs.Blocks.{AreCopied, blocks_of}
use Rattle.idx_core_model.specs.Layers.{held_block}
use Rattle.idx_core_asks.specs.Asked.{AskedValue}
use Rattle.idx_core_asks.proofs.HeldLemmas.{answer-made, overwritten-whole}
use Rattle.idx_core_asks.proofs.asked.Asked.put_together.Goals as goal

pub returns : goal.returns
returns c =
    let x : AskedValue = c.args.self.now in
    let plan : c.self.inside.plan ≡ x.plan = ap (λ (y : AskedValue). y.plan) c.self.view_is in
    let kept : c.kept.result.now ≡ x.query.kept = c.kept.ensures ∙ ap (λ (y : AskedValue). y.query.kept) c.self.view_is in
    let valid : IsPlan x.plan = subst IsPlan plan c.bytes.ensures.valid in
    let whole : length c.copy_all.new.out ≡ x.plan.bytes = c.copy_all.ensures.room ∙ ap (λ (p : PlanValue). p.bytes) plan in
    let many : length c.copy_all.new.out ≡ length c.in_ok-out.out = c.copy_all.ensures.room ∙ sym (ap length c.in_ok-out.ensures ∙ length-replicate c.bytes.result 0 ∙ c.bytes.ensures.value) in
    overwritten-whole c.in_ok-out.out c.copy_all.new.out many
    ∙ answer-made c.args.below.now x c.requires.planned valid.bits c.copy_all.new.out whole
    (subst (λ (h : List (ℕ × List ℕ)). AreCopied x.plan (held_block h) (blocks_of x.plan.keys) c.copy_all.new.out) kept
    (subst (λ (p : PlanValue). AreCopied p (held_block c.kept.result.now) (blocks_of p.keys) c.copy_all.new.out) plan (c.copy_all.ensures.copied 0)))
