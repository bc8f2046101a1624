use Rattle.idx_edition.proofs.BackLemmas.{no_bad, stored_back}
use Rattle.idx_edition.proofs.OwnLemmas.{own_files}
use Rattle.idx_edition.proofs.laws.written_steps_read_back.Goals as goal

pub returns-clause-sound : goal.returns-clause-sound
returns-clause-sound c = no_bad

pub returns-clause-volume : goal.returns-clause-volume
returns-clause-volume c = stored_back

pub returns-clause-own : goal.returns-clause-own
returns-clause-own c = own_files
