use Rattle.std.proofs.Common.{◌≡◌, drop, not}
use Rattle.std.specs.Prelude.{find}
use Rattle.std.specs.Option.{is_some}
use Rattle.idx_dock.specs.declared.awaited.Awaited.{Awaited}
use Rattle.idx_dock.proofs.awaiting.first_missing.Given as goal

-- none of those before
abbrev pub invariant-loop-a : goal.invariant-loop-a
invariant-loop-a l = find (λ (a : Awaited). not (is_some a.runs)) (drop l.a-index l.awaited) ≡ find (λ (a : Awaited). not (is_some a.runs)) l.awaited
