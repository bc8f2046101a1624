use Rattle.idx_lock.specs.LockRule.{stands}
use Rattle.idx_lock.proofs.Rules.{compares}
use Rattle.idx_lock.proofs.turn_lock.TurnLock.join.Goals as goal

pub learn_as-requires-clause-rule : goal.learn_as-requires-clause-rule
learn_as-requires-clause-rule g c = compares (stands g.S.Standing.shape g.S.Standing.capacity g.S.Standing.posts) _ _
