use Rattle.std.proofs.Common.{◌≡◌}
use Rattle.crossbeam_queue.specs.Passes.{view}
use Rattle.idx_lock.specs.Seats.{IsPass}
use Rattle.idx_lock.proofs.turn_lock.TurnLock.get.Given as goal

abbrev pub invariant-loop : goal.invariant-loop
invariant-loop g l = IsPass l.self l.pass × (view l.pass ≡ view l.initial.pass)
