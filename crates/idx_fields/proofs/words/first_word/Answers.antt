use Rattle.std.proofs.Common.{◌-◌, List, ℕ, length, take, drop}
use Rattle.std.proofs.lemmas.List.{take_rest}
use Rattle.idx_fields.proofs.RunsLemmas.{runs-first, runs-none}
use Rattle.idx_fields.proofs.words.first_word.Goals as goal

pub returns-in_err-start : goal.returns-in_err-start
returns-in_err-start c = rw c.from_residual.ensures (runs-none c.args.text.now c.in_err-start.ensures.none)

pub returns : goal.returns
returns c =
    let text = c.args.text.now in
    let start = c.in_ok-start.start in
    let rest : List ℕ = take (length text - start) (drop start text) in
    let end = c.word_end-end.result in
    let found = c.in_ok-start.ensures.some in
    let ends = c.word_end-end.ensures in
    rw (take_rest rest end) (runs-first text rest start end found.0 found.1 found.2 (take_rest text start) ends.within ends.word ends.behind)
