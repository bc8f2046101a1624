use Rattle.std.proofs.Common.{◌≡◌, ◌++◌, filter, map, take}
use Rattle.idx_events.specs.Lists.{has}
use Rattle.idx_events.specs.declared.event.Event.TheVariants.{Give}
use Rattle.idx_drill.proofs.events.give_parts.Given as goal

abbrev pub invariant-loop-piece : goal.invariant-loop-piece
invariant-loop-piece l = l.events.items ≡ l.fn.events.items
    ++ map (λ piece. Give 0 0 l.rank piece.id) (filter (λ piece. has l.rank piece.ranks) (take l.piece-index l.pieces.items))
