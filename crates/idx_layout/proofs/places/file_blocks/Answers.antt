use Rattle.std.proofs.Common.{ℕ, List, ◌≤◌, length, sym, subst}
use Rattle.idx_layout.proofs.HeaderLemmas.{few_in_file}
use Rattle.idx_layout.proofs.places.file_blocks.Goals as goal

pub returns-clause-few : goal.returns-clause-few
returns-clause-few c = subst (λ (xs : List ℕ). length xs ≤ 65536) (sym c.of_header.ensures.value) (few_in_file c.args.header.now c.args.file c.of_header.ensures.valid)
