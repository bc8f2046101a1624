use Rattle.idx_lock.specs.LockRule.{stands}
use Rattle.idx_lock.proofs.Rules.{takes}
use Rattle.idx_lock.proofs.turn_lock.TurnLock.get.Goals as goal

pub pop_as-requires-clause-rule : goal.pop_as-requires-clause-rule
pop_as-requires-clause-rule g c = (takes (stands g.S.Standing.shape g.S.Standing.capacity g.S.Standing.posts) _ _, λ items views h at. tt)
