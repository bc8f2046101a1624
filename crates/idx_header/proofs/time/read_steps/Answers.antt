use Rattle.std.proofs.Common.{◌≡◌, length, map, take, sym, ap, ◌∙◌, arith}
use Rattle.std.proofs.lemmas.List.{length-map}
use Rattle.idx_text.specs.Numbers.{runs}
use Rattle.idx_header.specs.Time.{steps_of, steps_of_words}
use Rattle.idx_header.proofs.FaultLemmas.{ok_maps}
use Rattle.idx_header.proofs.StepLemmas.{four_tell, three, three_alone}
use Rattle.idx_header.proofs.time.read_steps.Goals as goal

pub returns-clause-value : goal.returns-clause-value
unfolding steps_of
returns-clause-value c =
    let all : length c.as_slice-words.result.now ≡ 3 = omega arith in
    ok_maps c.steps_with.result _ _
    (λ s is. is ∙ ap steps_of_words (sym (three c.as_slice-words.result.now _ _ _ all) ∙ ap (map _) c.as_slice-words.ensures.value ∙ c.few_runs-found.ensures)
    ∙ sym (four_tell (runs c.args.text.now)))
    c.steps_with.ensures.value

pub returns-then-words-ne3-clause-value : goal.returns-then-words-ne3-clause-value
unfolding steps_of
returns-then-words-ne3-clause-value c =
    let same : length c.as_slice-words.result.now ≡ length (take 4 (runs c.args.text.now)) =
    ap length c.as_slice-words.ensures.value ∙ sym (length-map c.few_runs-found.result.items (λ r. r.now)) ∙ ap length c.few_runs-found.ensures in
    sym (four_tell (runs c.args.text.now) ∙ three_alone (take 4 (runs c.args.text.now)) (λ e. omega (arith, same)))
