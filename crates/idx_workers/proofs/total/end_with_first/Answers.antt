use Rattle.std.proofs.Common.{◌∙◌, sym}
use Rattle.idx_workers.proofs.TotalLemmas.{no_memory_first}
use Rattle.idx_workers.proofs.total.end_with_first.Goals as goal

pub returns-in_default-NoMemory : goal.returns-in_default-NoMemory
returns-in_default-NoMemory c ends same = no_memory_first c.args.first ends (sym c.in_default-NoMemory.is-1 ∙ same)
