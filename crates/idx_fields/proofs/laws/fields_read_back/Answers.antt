use Rattle.idx_fields.proofs.ReadBackLemmas.{rows_back, lines_joined}
use Rattle.idx_fields.proofs.laws.fields_read_back.Goals as goal

pub returns-clause-row : goal.returns-clause-row
returns-clause-row c = rows_back

pub returns-clause-lines : goal.returns-clause-lines
returns-clause-lines c = lines_joined
