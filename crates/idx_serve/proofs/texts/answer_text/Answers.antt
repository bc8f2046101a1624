use Rattle.std.proofs.Common.{◌≡◌, ◌-◌, ◌++◌, IfOk, List, ℕ, ap, subst, ◌∙◌, arith}
use Rattle.idx_header.specs.Header.{sample_bytes_of}
use Rattle.idx_http.specs.Reply.{reply_head}
use Rattle.idx_plan.specs.Needed.{answer_samples}
use Rattle.idx_serve.proofs.TextLemmas.{answer_is, samples_behind}
use Rattle.idx_serve.proofs.texts.answer_text.Goals as goal

pub answer_fields-requires-clause-samples : goal.answer_fields-requires-clause-samples
answer_fields-requires-clause-samples c =
    let h = c.args.header.now in
    let ask = c.args.ask.now in
    samples_behind 512 (answer_samples h ask) (sample_bytes_of h ask.field) c.len.result c.sample_bytes.result
    (omega (arith, c.sample_bytes.ensures.some, c.sample_bytes.ensures.value)) (c.len.ensures ∙ c.requires.many) c.sample_bytes.ensures.value

pub returns : goal.returns
returns c =
    let is = answer_is c.args.header.now c.args.ask.now c.args.post c.args.closes c.args.samples c.head_of.new.out 512 (c.len.result - 512) c.in_ok-fields.fields.items
    (ap (λ n. n - 512) c.len.ensures) c.in_ok-fields.ensures (c.in_ok-head_of.ensures.ok ∙ ap (λ (l : List ℕ). l ++ reply_head 200 (c.len.result - 512) c.in_ok-fields.fields.items) c.in_ok-head.ensures) in
    subst (λ x. IfOk c.join.result (λ text. text ≡ x)) is c.join.ensures
