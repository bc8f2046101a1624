use Rattle.std.proofs.Common.{◌≡◌, ◌++◌, filter, map, take}
use Rattle.std.specs.List.{flat_map}
use Rattle.idx_layout.specs.OfHeader.{placing_of}
use Rattle.idx_layout.specs.Placing.{file_numbers}
use Rattle.idx_dock.specs.Dock.{reaches}
use Rattle.idx_events.specs.declared.event.Event.TheVariants.{Ship}
use Rattle.idx_drill.proofs.events.ship_all.Given as goal

abbrev pub invariant-loop-piece : goal.invariant-loop-piece
invariant-loop-piece l = l.events.items ≡ l.fn.events.items
    ++ flat_map (λ piece. map (λ file. Ship 0 0 piece.id file) (filter (reaches l.header piece.region) (file_numbers (placing_of l.header)))) (take l.piece-index l.pieces.items)
