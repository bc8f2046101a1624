use Rattle.std.proofs.Common.{◌≡◌, ◌<◌, ◌++◌, ◌∷◌, [], length, map, take, sym, ap, ◌∙◌, arith, rules, eqb-true}
use Rattle.std.proofs.lemmas.Bool.Decides.{nat_tests}
use Rattle.std.proofs.lemmas.Iterator.Consumers.{YieldsList-turn, YieldsList-end}
use Rattle.std.proofs.lemmas.Iterator.Splits.{YieldsList-from_slice_split}
use Rattle.std.proofs.lemmas.List.{length_push, length-map, map-append, take_all}
use Rattle.std.proofs.Math.Nat.{le_of_eq}
use Rattle.std.specs.List.{slice_split}
use Rattle.idx_text.specs.Numbers.{is_blank}
use Rattle.idx_header.proofs.RunLemmas.{four, four-empty, four-full, four-push}
use Rattle.idx_header.proofs.time.few_runs.Goals as goal

pub loop-run-preserved-then-is_empty : goal.loop-run-preserved-then-is_empty
loop-run-preserved-then-is_empty c =
    let empty : length c.in-Some.run'.now ≡ 0 = grind (arith, nat_tests) in
    let parts = slice_split is_blank c.args.text.now in
    let chain = YieldsList-from_slice_split _ is_blank c.args.text.now (cc) (cc) (cc) (λ x b q k. search rules) in
    let turn = YieldsList-turn chain c.loop-run.yielded _ c.loop-run.yielded_by _ _ c.in-Some.run' c.in-Some.is c.next.ensures.steps in
    c.loop-run.invariant
    ∙ sym (ap (λ n. four (take n parts)) (length_push c.loop-run.yielded c.in-Some.run')
    ∙ four-empty parts (length c.loop-run.yielded) c.in-Some.run'.now turn.0 turn.1 empty)

pub loop-run-preserved-then-is_full : goal.loop-run-preserved-then-is_full
loop-run-preserved-then-is_full c =
    let full : length c.loop-run.found.items ≡ 4 = eqb-true (length c.loop-run.found.items) 4 (sym c.is_full.ensures.value ∙ c.if-is_full.true) in
    let parts = slice_split is_blank c.args.text.now in
    let chain = YieldsList-from_slice_split _ is_blank c.args.text.now (cc) (cc) (cc) (λ x b q k. search rules) in
    let turn = YieldsList-turn chain c.loop-run.yielded _ c.loop-run.yielded_by _ _ c.in-Some.run' c.in-Some.is c.next.ensures.steps in
    let many : length (four (take (length c.loop-run.yielded) parts)) ≡ 4 = sym (ap length c.loop-run.invariant) ∙ length-map _ _ ∙ full in
    c.loop-run.invariant
    ∙ sym (ap (λ n. four (take n parts)) (length_push c.loop-run.yielded c.in-Some.run')
    ∙ four-full parts (length c.loop-run.yielded) c.in-Some.run'.now turn.0 turn.1 many)

pub loop-run-preserved : goal.loop-run-preserved
loop-run-preserved c =
    let some : 0 < length c.in-Some.run'.now = grind (arith, nat_tests) in
    let room : length c.loop-run.found.items < 4 = grind (arith, nat_tests) in
    let parts = slice_split is_blank c.args.text.now in
    let chain = YieldsList-from_slice_split _ is_blank c.args.text.now (cc) (cc) (cc) (λ x b q k. search rules) in
    let turn = YieldsList-turn chain c.loop-run.yielded _ c.loop-run.yielded_by _ _ c.in-Some.run' c.in-Some.is c.next.ensures.steps in
    let counted : length (four (take (length c.loop-run.yielded) parts)) ≡ length c.loop-run.found.items = sym (ap length c.loop-run.invariant) ∙ length-map _ _ in
    ap (map _) c.push.ensures.items ∙ map-append _ c.loop-run.found.items (c.in-Some.run' ∷ [])
    ∙ ap (λ ns. ns ++ c.in-Some.run'.now ∷ []) c.loop-run.invariant
    ∙ sym (ap (λ n. four (take n parts)) (length_push c.loop-run.yielded c.in-Some.run')
    ∙ four-push parts (length c.loop-run.yielded) c.in-Some.run'.now turn.0 turn.1 some (omega (arith, counted, room)))

pub returns : goal.returns
returns c =
    let parts = slice_split is_blank c.args.text.now in
    let chain = YieldsList-from_slice_split _ is_blank c.args.text.now (cc) (cc) (cc) (λ x b q k. search rules) in
    let end = YieldsList-end chain c.loop-run.yielded _ c.loop-run.yielded_by _ _ c.in-None.is c.next.ensures.steps in
    c.loop-run.invariant ∙ ap four (take_all (length c.loop-run.yielded) parts (le_of_eq (sym end.1)))
