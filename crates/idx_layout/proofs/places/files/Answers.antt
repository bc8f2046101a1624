use Rattle.std.proofs.Common.{ℕ, List, ◌≤◌, ◌^◌, length, sym, subst}
use Rattle.idx_layout.proofs.HeaderLemmas.{few_files}
use Rattle.idx_layout.proofs.places.files.Goals as goal

pub returns-clause-few : goal.returns-clause-few
returns-clause-few c = subst (λ (xs : List ℕ). length xs ≤ 2 ^ 24) (sym c.of_header.ensures.value) (few_files c.args.header.now c.of_header.ensures.valid)
