use Rattle.idx_names.proofs.RightLemmas.{path_some, step_path_some, folder_path_some}
use Rattle.idx_names.proofs.laws.paths_are_not_empty.Goals as goal

pub returns-clause-file : goal.returns-clause-file
returns-clause-file c = path_some

pub returns-clause-step_file : goal.returns-clause-step_file
returns-clause-step_file c = step_path_some

pub returns-clause-folder : goal.returns-clause-folder
returns-clause-folder c = folder_path_some
