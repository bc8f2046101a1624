use Rattle.std.proofs.Common.{◌++◌, ◌∷◌, [], length, Err, sym, ap, ◌∙◌, rules}
use Rattle.std.proofs.lemmas.Iterator.Consumers.{YieldsList-turn, YieldsList-end}
use Rattle.std.proofs.lemmas.Iterator.Splits.{YieldsList-from_slice_split}
use Rattle.std.proofs.lemmas.List.{length_push}
use Rattle.std.proofs.Math.Nat.{le_of_eq}
use Rattle.std.specs.List.{slice_split}
use Rattle.idx_fields.specs.Field.{is_plus}
use Rattle.idx_fields.proofs.FaultLemmas.{same_fault}
use Rattle.idx_fields.proofs.PartsLemmas.{with_rest, with_rest-push, with_rest-none, with_rest-end, with_rest-start}
use Rattle.idx_fields.proofs.field_list.read_parts.Goals as goal

pub loop-part-init : goal.loop-part-init
loop-part-init c =
    let parts = slice_split is_plus c.args.text.now in
    ap (λ front. with_rest front parts 0) c.new-fields.ensures.items ∙ with_rest-start parts

pub loop-part-preserved : goal.loop-part-preserved
loop-part-preserved c =
    let parts = slice_split is_plus c.args.text.now in
    let chain = YieldsList-from_slice_split _ is_plus c.args.text.now (cc) (cc) (cc) (λ x b q k. search rules) in
    let turn = YieldsList-turn chain c.loop-part.yielded _ c.loop-part.yielded_by _ _ c.in-Some.part c.in-Some.is c.next.ensures.steps in
    let at = length c.loop-part.yielded in
    let f = c.in_ok-read.field-0 in
    let front = ap (λ fs. with_rest fs parts (length (c.loop-part.yielded ++ c.in-Some.part ∷ []))) c.in_ok-push.ensures.items in
    let counted = ap (with_rest (c.loop-part.fields.items ++ f ∷ []) parts) (length_push c.loop-part.yielded c.in-Some.part) in
    let pushed = with_rest-push c.loop-part.fields.items parts at c.in-Some.part.now turn.0 turn.1 f c.in_ok-read.ensures.ok in
    front ∙ counted ∙ pushed ∙ c.loop-part.invariant

pub returns-in_err-read-clause-bad : goal.returns-in_err-read-clause-bad
returns-in_err-read-clause-bad c =
    λ bad.
    let fault = same_fault c.from_residual.result c.in_err-read.field-0.0 _ c.from_residual.ensures.1 bad in
    let reads = c.in_err-read.ensures.bad (ap Err fault) in
    let parts = slice_split is_plus c.args.text.now in
    let chain = YieldsList-from_slice_split _ is_plus c.args.text.now (cc) (cc) (cc) (λ x b q k. search rules) in
    let turn = YieldsList-turn chain c.loop-part.yielded _ c.loop-part.yielded_by _ _ c.in-Some.part c.in-Some.is c.next.ensures.steps in
    let none = with_rest-none c.loop-part.fields.items parts (length c.loop-part.yielded) c.in-Some.part.now turn.0 turn.1 reads in
    sym c.loop-part.invariant ∙ none

pub returns-clause-ok : goal.returns-clause-ok
returns-clause-ok c =
    let parts = slice_split is_plus c.args.text.now in
    let chain = YieldsList-from_slice_split _ is_plus c.args.text.now (cc) (cc) (cc) (λ x b q k. search rules) in
    let end = YieldsList-end chain c.loop-part.yielded _ c.loop-part.yielded_by _ _ c.in-None.is c.next.ensures.steps in
    sym c.loop-part.invariant ∙ with_rest-end c.loop-part.fields.items parts (length c.loop-part.yielded) (le_of_eq (sym end.1))
