use Rattle.std.proofs.Common.{◌≡◌, ◌<◌, ◌++◌, ◌∷◌, [], ℕ, List, length, Some, None, sym, ap, ◌∙◌, arith, rules, eqb-true}
use Rattle.std.proofs.lemmas.Iterator.Consumers.{YieldsList-turn, YieldsList-end}
use Rattle.std.proofs.lemmas.Iterator.Splits.{YieldsList-from_slice_split}
use Rattle.std.proofs.lemmas.List.{length_push}
use Rattle.std.proofs.Math.Nat.{le_of_eq}
use Rattle.std.proofs.lemmas.Bool.Decides.{nat_tests}
use Rattle.std.specs.List.{slice_split}
use Rattle.idx_text.specs.Numbers.{is_blank, numbers_of}
use Rattle.idx_text.proofs.RunLemmas.{with_rest, with_rest-skip, with_rest-push, with_rest-none, with_rest-full, with_rest-end, with_rest-start}
use Rattle.idx_text.proofs.numbers.read_numbers.Goals as goal

none_is_not_some : (numbers : List ℕ) → None ≡ Some numbers → ⊥
none_is_not_some numbers e = cc

pub loop-run-init : goal.loop-run-init
unfolding numbers_of
loop-run-init c =
    let parts = slice_split is_blank c.args.text.now in
    ap (λ front. with_rest front parts 0) c.new-numbers.ensures ∙ with_rest-start parts

pub loop-run-preserved-then-is_empty : goal.loop-run-preserved-then-is_empty
loop-run-preserved-then-is_empty c =
    let empty : length c.in-Some.run'.now ≡ 0 = grind (arith, nat_tests) in
    let parts = slice_split is_blank c.args.text.now in
    let chain = YieldsList-from_slice_split _ is_blank c.args.text.now (cc) (cc) (cc) (λ x b q k. search rules) in
    let turn = YieldsList-turn chain c.loop-run.yielded _ c.loop-run.yielded_by _ _ c.in-Some.run' c.in-Some.is c.next.ensures.steps in
    let at = length c.loop-run.yielded in
    let counted = ap (with_rest c.loop-run.numbers.items parts) (length_push c.loop-run.yielded c.in-Some.run') in
    let skipped = with_rest-skip c.loop-run.numbers.items parts at c.in-Some.run'.now turn.0 turn.1 empty in
    counted ∙ skipped ∙ c.loop-run.invariant

pub returns-then-is_full-clause-none : goal.returns-then-is_full-clause-none
returns-then-is_full-clause-none c =
    λ numbers lists.
    let some : 0 < length c.in-Some.run'.now = grind (arith, nat_tests) in
    let full : length c.loop-run.numbers.items ≡ 10 = eqb-true (length c.loop-run.numbers.items) 10 (sym c.is_full.ensures.value ∙ c.if-is_full.true) in
    let parts = slice_split is_blank c.args.text.now in
    let chain = YieldsList-from_slice_split _ is_blank c.args.text.now (cc) (cc) (cc) (λ x b q k. search rules) in
    let turn = YieldsList-turn chain c.loop-run.yielded _ c.loop-run.yielded_by _ _ c.in-Some.run' c.in-Some.is c.next.ensures.steps in
    with_rest-full c.loop-run.numbers.items parts (length c.loop-run.yielded) c.in-Some.run'.now turn.0 turn.1 numbers some full (c.loop-run.invariant ∙ lists)

pub returns-in_err-read_number-clause-none : goal.returns-in_err-read_number-clause-none
returns-in_err-read_number-clause-none c =
    let some : 0 < length c.in-Some.run'.now = grind (arith, nat_tests) in
    let parts = slice_split is_blank c.args.text.now in
    let chain = YieldsList-from_slice_split _ is_blank c.args.text.now (cc) (cc) (cc) (λ x b q k. search rules) in
    let turn = YieldsList-turn chain c.loop-run.yielded _ c.loop-run.yielded_by _ _ c.in-Some.run' c.in-Some.is c.next.ensures.steps in
    let none = with_rest-none c.loop-run.numbers.items parts (length c.loop-run.yielded) c.in-Some.run'.now turn.0 turn.1 some (sym c.in_err-read_number.ensures) in
    rw c.from_residual.ensures (λ numbers lists. absurd (none_is_not_some numbers (sym none ∙ c.loop-run.invariant ∙ lists)))

pub loop-run-preserved : goal.loop-run-preserved
loop-run-preserved c =
    let some : 0 < length c.in-Some.run'.now = grind (arith, nat_tests) in
    let parts = slice_split is_blank c.args.text.now in
    let chain = YieldsList-from_slice_split _ is_blank c.args.text.now (cc) (cc) (cc) (λ x b q k. search rules) in
    let turn = YieldsList-turn chain c.loop-run.yielded _ c.loop-run.yielded_by _ _ c.in-Some.run' c.in-Some.is c.next.ensures.steps in
    let at = length c.loop-run.yielded in
    let n = c.in_ok-read_number.field-0 in
    let front = ap (λ ns. with_rest ns parts (length (c.loop-run.yielded ++ c.in-Some.run' ∷ []))) c.push.ensures.items in
    let counted = ap (with_rest (c.loop-run.numbers.items ++ n ∷ []) parts) (length_push c.loop-run.yielded c.in-Some.run') in
    let pushed = with_rest-push c.loop-run.numbers.items parts at c.in-Some.run'.now turn.0 turn.1 n some (sym c.in_ok-read_number.ensures) in
    front ∙ counted ∙ pushed ∙ c.loop-run.invariant

pub returns-clause-some : goal.returns-clause-some
returns-clause-some c =
    let parts = slice_split is_blank c.args.text.now in
    let chain = YieldsList-from_slice_split _ is_blank c.args.text.now (cc) (cc) (cc) (λ x b q k. search rules) in
    let end = YieldsList-end chain c.loop-run.yielded _ c.loop-run.yielded_by _ _ c.in-None.is c.next.ensures.steps in
    sym c.loop-run.invariant ∙ with_rest-end c.loop-run.numbers.items parts (length c.loop-run.yielded) (le_of_eq (sym end.1))
