use Rattle.idx_table.proofs.ReadBackLemmas.{rows_of-written, length-written}
use Rattle.idx_table.proofs.laws.tables_read_back.Goals as goal

pub returns-clause-rows : goal.returns-clause-rows
returns-clause-rows c = rows_of-written

pub returns-clause-bytes : goal.returns-clause-bytes
returns-clause-bytes c = length-written
