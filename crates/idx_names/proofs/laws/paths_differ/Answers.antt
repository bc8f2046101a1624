use Rattle.idx_names.proofs.ApartLemmas.{files_differ, folders_differ, steps_differ}
use Rattle.idx_names.proofs.laws.paths_differ.Goals as goal

pub returns-clause-steps : goal.returns-clause-steps
returns-clause-steps c = steps_differ

pub returns-clause-files : goal.returns-clause-files
returns-clause-files c = files_differ

pub returns-clause-folders : goal.returns-clause-folders
returns-clause-folders c = folders_differ
