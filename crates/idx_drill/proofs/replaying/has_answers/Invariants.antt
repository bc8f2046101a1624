use Rattle.std.proofs.Common.{◌≡◌, ◌<◌, ℕ, Some, None, [], get_or, slice_get}
use Rattle.std.specs.Option.{option_map_or}
use Rattle.idx_events.specs.World.{Query}
use Rattle.idx_drill.proofs.replaying.has_answers.Given as goal

abbrev pub invariant-loop-number : goal.invariant-loop-number
invariant-loop-number l =
    (k : ℕ) → k < l.number → option_map_or (λ (x : Query). x.answer) (slice_get l.world.world.queries k) None ≡ Some (get_or l.answers.items k [])
