use Rattle.std.proofs.Common.{refl}
use Rattle.std.specs.Fmt.{digits}
use Rattle.idx_http.specs.Reply.{reason, line, status_line, field_line, reply_head}
use Rattle.idx_http.proofs.examples.worked_replies.Goals as goal

pub returns-clause-answer : goal.returns-clause-answer
unfolding digits reason line status_line field_line reply_head
returns-clause-answer c = refl

pub returns-clause-refusal : goal.returns-clause-refusal
unfolding digits reason line status_line field_line reply_head
returns-clause-refusal c = refl
