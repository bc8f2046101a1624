use Rattle.idx_serve.proofs.OnceLemmas.{lost_once, reply_once}
use Rattle.idx_serve.proofs.laws.a_head_meets_one_fault.Goals as goal

pub returns-clause-replied : goal.returns-clause-replied
returns-clause-replied c = λ tells site before asked last reply given. reply_once tells site before asked last reply given

pub returns-clause-lost : goal.returns-clause-lost
returns-clause-lost c = λ tells site before after lost. lost_once tells site before after lost
