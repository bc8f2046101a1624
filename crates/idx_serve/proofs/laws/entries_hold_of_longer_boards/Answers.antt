use Rattle.std.proofs.Common.{arith}
use Rattle.idx_session.specs.Entry.{mark_after, mark_of}
use Rattle.idx_serve.proofs.BoardLemmas.{all_hold, begins_on, known_begins, rises}
use Rattle.idx_serve.proofs.laws.entries_hold_of_longer_boards.Goals as goal

pub returns-clause-rises : goal.returns-clause-rises
returns-clause-rises c =
    λ tells site before after input written_old written_new readings_old readings_new served_old served_new end link.
    rises tells site (mark_of before 0) 0 link.session.entries link.session.follows (omega arith)

pub returns-clause-holds : goal.returns-clause-holds
returns-clause-holds c =
    λ tells site before after input written_old written_new readings_old readings_new served_old served_new end link posts more.
    all_hold tells site (mark_of before 0) 0 link.session.entries link.session.follows (omega arith) posts
    (begins_on (known_begins tells site (mark_after (mark_of before 0) link.session.entries) (mark_of after link.seen) end link.session.marked) more)
