use Rattle.idx_memory_bound.proofs.OpenLemmas.{begun_take_no_more}
use Rattle.idx_memory_bound.proofs.laws.begun_files_take_no_more_than_was_counted.Goals as goal

pub returns : goal.returns
returns c = begun_take_no_more
