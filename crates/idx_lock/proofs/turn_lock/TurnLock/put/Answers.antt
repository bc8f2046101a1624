use Rattle.idx_lock.specs.LockRule.{stands}
use Rattle.idx_lock.proofs.Rules.{gives, finds_room}
use Rattle.idx_lock.proofs.turn_lock.TurnLock.put.Goals as goal

pub push_as-requires-clause-rule : goal.push_as-requires-clause-rule
push_as-requires-clause-rule g c = (
  gives (stands g.S.Standing.shape g.S.Standing.capacity g.S.Standing.posts) _ _ _ _ c.requires.may,
  finds_room (stands g.S.Standing.shape g.S.Standing.capacity g.S.Standing.posts) _ _ c.requires.may.holds,
)
