use Rattle.idx_lock.specs.LockRule.{stands}
use Rattle.idx_lock.proofs.Rules.{one_line, one_writer, opens, writer_has_all}
use Rattle.idx_lock.proofs.laws.rule_of_seats.Goals as goal

pub returns-clause-opens : goal.returns-clause-opens
returns-clause-opens g c = opens (stands g.S.Standing.shape g.S.Standing.capacity g.S.Standing.posts)

pub returns-clause-one_writer : goal.returns-clause-one_writer
returns-clause-one_writer g c = one_writer (stands g.S.Standing.shape g.S.Standing.capacity g.S.Standing.posts)

pub returns-clause-all_seen : goal.returns-clause-all_seen
returns-clause-all_seen g c = writer_has_all (stands g.S.Standing.shape g.S.Standing.capacity g.S.Standing.posts)

pub returns-clause-one_line : goal.returns-clause-one_line
returns-clause-one_line g c = one_line (stands g.S.Standing.shape g.S.Standing.capacity g.S.Standing.posts)
