use Rattle.std.proofs.Common.{◌≡◌, ◌++◌, filter, map}
use Rattle.std.specs.List.{flat_map, range_with_len}
use Rattle.idx_events.specs.Lists.{has}
use Rattle.idx_events.specs.declared.event.Event.TheVariants.{Give}
use Rattle.idx_drill.proofs.events.give_all.Given as goal

abbrev pub invariant-loop-rank : goal.invariant-loop-rank
invariant-loop-rank l = l.events.items ≡ l.fn.events.items
    ++ flat_map (λ rank. map (λ piece. Give 0 0 rank piece.id) (filter (λ piece. has rank piece.ranks) l.pieces.items)) (range_with_len 0 l.rank)
