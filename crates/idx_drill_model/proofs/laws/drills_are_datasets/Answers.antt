use Rattle.idx_drill_model.proofs.HeaderLemmas.{drill-divided, header-is, mask-guessed}
use Rattle.idx_drill_model.proofs.ReadingLemmas.{text-read}
use Rattle.idx_drill_model.proofs.TakenLemmas.{can-ask, drill-taken, length-volume, volume-many}
use Rattle.idx_drill_model.proofs.laws.drills_are_datasets.Goals as goal

pub returns-clause-read : goal.returns-clause-read
returns-clause-read c = text-read

pub returns-clause-header : goal.returns-clause-header
returns-clause-header c = header-is

pub returns-clause-mask : goal.returns-clause-mask
returns-clause-mask c = mask-guessed

pub returns-clause-divided : goal.returns-clause-divided
returns-clause-divided c = drill-divided

pub returns-clause-bytes : goal.returns-clause-bytes
returns-clause-bytes c = volume-many

pub returns-clause-whole : goal.returns-clause-whole
returns-clause-whole c = length-volume

pub returns-clause-asked : goal.returns-clause-asked
returns-clause-asked c = can-ask

pub returns-clause-taken : goal.returns-clause-taken
returns-clause-taken c = drill-taken
