use Rattle.idx_names.proofs.TemplateLemmas.{made, read_again, dot_read_again, spelled}
use Rattle.idx_names.proofs.laws.texts_read_back.Goals as goal

pub returns-clause-plain : goal.returns-clause-plain
returns-clause-plain c = λ t h. read_again t (made t h)

pub returns-clause-dot : goal.returns-clause-dot
returns-clause-dot c = λ t h. dot_read_again t (made t h)

pub returns-clause-spelled : goal.returns-clause-spelled
returns-clause-spelled c = spelled
