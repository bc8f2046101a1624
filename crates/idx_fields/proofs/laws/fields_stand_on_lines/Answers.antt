use Rattle.idx_fields.proofs.LineLemmas.{further_trimmed, text_passes, text_some, text_trimmed}
use Rattle.idx_fields.proofs.laws.fields_stand_on_lines.Goals as goal

pub returns-clause-some : goal.returns-clause-some
returns-clause-some c = text_some

pub returns-clause-trimmed : goal.returns-clause-trimmed
returns-clause-trimmed c = text_trimmed

pub returns-clause-further : goal.returns-clause-further
returns-clause-further c = further_trimmed

pub returns-clause-bytes : goal.returns-clause-bytes
returns-clause-bytes c = text_passes
