use Rattle.idx_memory_bound.proofs.OpenLemmas.{begun_are_open}
use Rattle.idx_memory_bound.proofs.laws.begun_files_take_what_was_counted.Goals as goal

pub returns : goal.returns
returns c = λ h id left docks all are. begun_are_open id left h docks all are
