use Rattle.std.proofs.Common.{◌∙◌, sym, ap, Err}
use Rattle.idx_fields.specs.Fields.{are_distinct, are_within_limits, names_of}
use Rattle.idx_fields.proofs.FaultLemmas.{same_fault}
use Rattle.idx_fields.proofs.ListingLemmas.{are_fields, fields_of-none, fields_of-double, fields_of-over, fields_of-ok}
use Rattle.idx_fields.proofs.fields.Fields.read.Goals as goal

pub returns-in_err-items-clause-bad_field : goal.returns-in_err-items-clause-bad_field
returns-in_err-items-clause-bad_field c =
    λ bad.
    let fault = same_fault c.from_residual.result c.in_err-items.field-0.0 _ c.from_residual.ensures.1 bad in
    fields_of-none c.args.text.now (c.in_err-items.ensures.bad (ap Err fault))

pub returns-then-not-branch-clause-bad_field : goal.returns-then-not-branch-clause-bad_field
returns-then-not-branch-clause-bad_field c =
    λ _.
    let double = ap (λ fs. are_distinct (names_of fs)) (sym c.deref.ensures.value) ∙ sym c.in_ok-are_distinct.ensures ∙ c.if-not-branch.true in
    fields_of-double c.args.text.now c.in_ok-items.items.items c.in_ok-items.ensures.ok double

pub returns-then-not-are_within_limits-clause-over_limit : goal.returns-then-not-are_within_limits-clause-over_limit
returns-then-not-are_within_limits-clause-over_limit c =
    λ _.
    let distinct = ap (λ fs. are_distinct (names_of fs)) (sym c.deref.ensures.value) ∙ sym c.in_ok-are_distinct.ensures ∙ c.if-not-branch.false in
    let over = ap are_within_limits (sym c.deref-2.ensures.value) ∙ sym c.are_within_limits.ensures ∙ c.if-not-are_within_limits.true in
    fields_of-over c.args.text.now c.in_ok-items.items.items c.in_ok-items.ensures.ok distinct over

pub invariant_of-result : goal.invariant_of-result
invariant_of-result c =
    let distinct = ap (λ fs. are_distinct (names_of fs)) (sym c.deref.ensures.value) ∙ sym c.in_ok-are_distinct.ensures ∙ c.if-not-branch.false in
    let within = ap are_within_limits (sym c.deref-2.ensures.value) ∙ sym c.are_within_limits.ensures ∙ c.if-not-are_within_limits.false in
    are_fields c.args.text.now c.in_ok-items.items.items c.in_ok-items.ensures.ok distinct within

pub returns-clause-ok : goal.returns-clause-ok
returns-clause-ok c =
    let distinct = ap (λ fs. are_distinct (names_of fs)) (sym c.deref.ensures.value) ∙ sym c.in_ok-are_distinct.ensures ∙ c.if-not-branch.false in
    let within = ap are_within_limits (sym c.deref-2.ensures.value) ∙ sym c.are_within_limits.ensures ∙ c.if-not-are_within_limits.false in
    fields_of-ok c.args.text.now c.in_ok-items.items.items c.in_ok-items.ensures.ok distinct within

pub returns-clause-valid : goal.returns-clause-valid
returns-clause-valid c =
    let distinct = ap (λ fs. are_distinct (names_of fs)) (sym c.deref.ensures.value) ∙ sym c.in_ok-are_distinct.ensures ∙ c.if-not-branch.false in
    let within = ap are_within_limits (sym c.deref-2.ensures.value) ∙ sym c.are_within_limits.ensures ∙ c.if-not-are_within_limits.false in
    are_fields c.args.text.now c.in_ok-items.items.items c.in_ok-items.ensures.ok distinct within
