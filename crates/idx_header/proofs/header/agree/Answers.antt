use Rattle.std.proofs.Common.{sym, ap, ◌∙◌, arith, subst}
use Rattle.std.proofs.lemmas.Bool.Decides.{nat_tests}
use Rattle.idx_geom.proofs.PaddedLemmas.{equal_iff}
use Rattle.idx_fields.specs.Fields.{Agree as AgreeFields}
use Rattle.idx_header.specs.Header.{HeaderValue}
use Rattle.idx_header.proofs.header.agree.Goals as goal

pub returns : goal.returns
returns c =
    let a = c.these.view_is in
    let b = c.those.view_is in
    let fields = subst (λ fs. AgreeFields fs c.args.those.now.fields) (ap (λ (h : HeaderValue). h.fields) a)
    (subst (λ fs. AgreeFields c.these.inside.fields fs) (ap (λ (h : HeaderValue). h.fields) b) (c.agrees.ensures.0 c.if-not-agrees.false)) in (
      λ same. record {
        box = sym (ap (λ (h : HeaderValue). h.box) a) ∙ c.same_region.ensures.0 c.if-not-same_region.false ∙ ap (λ (h : HeaderValue). h.box) b;
        mask = sym (ap (λ (h : HeaderValue). h.mask) a) ∙ (equal_iff 40 c.these.inside.mask c.those.inside.mask).0 (grind (arith, nat_tests)) ∙ ap (λ (h : HeaderValue). h.mask) b;
        fields = fields;
        block_bits = sym (ap (λ (h : HeaderValue). h.block_bits) a) ∙ c.if-these-those.false ∙ ap (λ (h : HeaderValue). h.block_bits) b;
        blocks_per_file = sym (ap (λ (h : HeaderValue). h.blocks_per_file) a) ∙ c.if-these-those-2.false ∙ ap (λ (h : HeaderValue). h.blocks_per_file) b;
        template = sym (ap (λ (h : HeaderValue). h.template) a) ∙ c.equals.ensures.same.0 c.if-not-equals.false ∙ ap (λ (h : HeaderValue). h.template) b;
        steps = sym (ap (λ (h : HeaderValue). h.steps) a) ∙ c.same_steps.ensures.0 same ∙ ap (λ (h : HeaderValue). h.steps) b;
      },
      λ same. c.same_steps.ensures.1 (ap (λ (h : HeaderValue). h.steps) a ∙ same.steps ∙ sym (ap (λ (h : HeaderValue). h.steps) b)),
    )
