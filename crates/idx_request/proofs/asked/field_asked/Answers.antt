use Rattle.std.proofs.Common.{◌≡◌, ◌∙◌, [], ◌∷◌, true, false, subst, sym, refl, rules}
use Rattle.idx_request.specs.Asked.{IsFieldAsked}
use Rattle.idx_request.specs.Faults.{names_field}
use Rattle.idx_request.specs.Kept.{IsNoted}
use Rattle.idx_request.specs.Pairs.{text_of}
use Rattle.idx_request.proofs.FieldLemmas.{names_found, names_lost}
use Rattle.idx_request.proofs.asked.field_asked.Goals as goal

pub returns-in-Some : goal.returns-in-Some
returns-in-Some c values noted single =
    let is : values ≡ text_of c.in-Once.value.now ∷ [] = subst (λ n. IsNoted n values) c.in-Once.is noted in
    let same : c.as_bytes.result.now ≡ text_of c.in-Once.value.now = search rules in
    let found = (c.in-Some.ensures.some c.in-Some.field).0 refl in
    subst (λ vs. (names_field c.args.header.now.fields vs ≡ true) × IsFieldAsked c.args.header.now vs c.in-Some.field) (sym is)
    (names_found c.args.header.now.fields _ c.in-Some.field found.0 (found.1 ∙ same), (found.0, found.1 ∙ same))

pub returns : goal.returns
returns c values noted single =
    let is : values ≡ text_of c.in-Once.value.now ∷ [] = subst (λ n. IsNoted n values) c.in-Once.is noted in
    let same : c.as_bytes.result.now ≡ text_of c.in-Once.value.now = search rules in (
      refl,
      subst (λ vs. names_field c.args.header.now.fields vs ≡ false) (sym is)
          (names_lost c.args.header.now.fields _ (λ i within equal. c.in-None.ensures.none i within (equal ∙ sym same))),
    )
