use Rattle.idx_lock.specs.LockRule.{stands}
use Rattle.idx_lock.proofs.Rules.{opens, fills}
use Rattle.idx_lock.proofs.turn_lock.TurnLock.new.Goals as goal

pub ruled-requires-clause-rule : goal.ruled-requires-clause-rule
ruled-requires-clause-rule g c = opens (stands g.S.Standing.shape g.S.Standing.capacity g.S.Standing.posts)

pub try_push_as-requires-clause-rule : goal.try_push_as-requires-clause-rule
try_push_as-requires-clause-rule g c =
    fills (stands g.S.Standing.shape g.S.Standing.capacity g.S.Standing.posts) _ _ _ _ c.in-Ok.ensures.3
