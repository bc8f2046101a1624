use Rattle.std.proofs.Common.{◌≡◌, ℕ, ◌*◌, ◌≤◌, List, sym, ap, ◌∙◌, refl, subst}
use Rattle.idx_plan.specs.Needed.{answer_bytes, max_answer}
use Rattle.idx_plan.specs.Plan.{asked_of}
use Rattle.idx_plan.proofs.PlanLemmas.{plan-is}
use Rattle.idx_plan.proofs.planning.plan.Goals as goal

pub new-requires : goal.new-requires
new-requires c =
    let found = c.in_ok-samples.ensures in
    let order : c.new-order.result ≡ asked_of c.args.header.now c.args.ask.now =
    c.new-order.ensures ∙ ap (λ (m : List ℕ). record { mask = m; region = c.args.ask.now.region; lo = c.args.ask.now.lo; hi = c.args.ask.now.hi }) c.mask.ensures.value in
    let bytes : c.in_ok-samples.samples * c.sample_bytes-size.result ≡ answer_bytes c.args.header.now c.args.ask.now = (λ i. found.samples i * c.sample_bytes-size.ensures.value i) in
    let few : c.in_ok-samples.samples * c.sample_bytes-size.result ≤ max_answer = subst (λ (n : ℕ). n ≤ max_answer) (sym bytes) found.few in
    plan-is c.args.header.now c.args.ask.now _ c.mask.ensures.valid found.answerable.upper order found.samples refl few
    c.in_ok-keys.ensures c.bits_per_block-bits.ensures.value c.sample_bytes-size.ensures.some c.sample_bytes-size.ensures.few
