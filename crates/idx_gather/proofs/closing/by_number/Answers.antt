use Rattle.std.proofs.Common.{rules}
use Rattle.std.proofs.lemmas.List.Sorted.{IsNonDecreasingBy-from_sort_by_key}
use Rattle.idx_gather.proofs.closing.by_number.Goals as goal

pub returns-clause-rising : goal.returns-clause-rising
returns-clause-rising g c = IsNonDecreasingBy-from_sort_by_key (λ entry. entry.0) c.sort_unstable_by_key.new.self.items c.sort_unstable_by_key.ensures.sorted (λ a r q k. search rules)
