use Rattle.idx_commands.proofs.WrittenLemmas.{layouts_answer, written_answer}
use Rattle.idx_commands.proofs.laws.answers_say_what_was_written.Goals as goal

pub returns-clause-written : goal.returns-clause-written
returns-clause-written c = written_answer

pub returns-clause-layouts : goal.returns-clause-layouts
returns-clause-layouts c = layouts_answer
