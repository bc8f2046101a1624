use Rattle.std.proofs.Common.{◌≡◌, ℕ, List, Some, true, false, sym, ap, ◌∙◌}
use Rattle.idx_header.specs.Box.{make_box}
use Rattle.idx_header.proofs.BoxLemmas.{many_no_pairs, odd_no_pairs, unordered_no_pairs, box_as_listed}
use Rattle.idx_header.proofs.space.read_pairs.Goals as goal

pub returns-in_err-numbers-clause-none : goal.returns-in_err-numbers-clause-none
returns-in_err-numbers-clause-none c = rw c.from_residual.ensures (many_no_pairs c.args.text.now c.in_err-numbers.ensures.none)

pub returns-in_err-pairs-clause-none : goal.returns-in_err-pairs-clause-none
returns-in_err-pairs-clause-none c =
    let lists = c.in_ok-numbers.ensures.some ∙ ap Some (sym c.as_slice.ensures.value) in
    rw c.from_residual-in_err-pairs.ensures (odd_no_pairs c.args.text.now c.as_slice.result.now lists c.in_err-pairs.ensures)

pub returns-then-make_box-clause-some : goal.returns-then-make_box-clause-some
returns-then-make_box-clause-some c =
    let lists = c.in_ok-numbers.ensures.some ∙ ap Some (sym c.as_slice.ensures.value) in
    let pairs : List (ℕ × ℕ) = c.in_ok-pairs.pairs.items in
    let made : make_box pairs ≡ true = ap make_box (sym c.as_slice-2.ensures.value) ∙ sym c.make_box.ensures ∙ c.if-make_box.true in
    (box_as_listed c.args.text.now c.as_slice.result.now pairs lists c.in_ok-pairs.ensures made, made)

pub returns-else-make_box-clause-none : goal.returns-else-make_box-clause-none
returns-else-make_box-clause-none c =
    let lists = c.in_ok-numbers.ensures.some ∙ ap Some (sym c.as_slice.ensures.value) in
    let pairs : List (ℕ × ℕ) = c.in_ok-pairs.pairs.items in
    let made : make_box pairs ≡ false = ap make_box (sym c.as_slice-2.ensures.value) ∙ sym c.make_box.ensures ∙ c.if-make_box.false in
    unordered_no_pairs c.args.text.now c.as_slice.result.now pairs lists c.in_ok-pairs.ensures made
