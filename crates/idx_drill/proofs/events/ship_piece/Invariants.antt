use Rattle.std.proofs.Common.{◌≡◌, ◌++◌, ◌<◌, filter, map}
use Rattle.std.specs.Prelude.{All}
use Rattle.idx_header.specs.Header.{block_count}
use Rattle.idx_layout.specs.OfHeader.{placing_of}
use Rattle.idx_layout.specs.Placing.{file_numbers}
use Rattle.idx_dock.specs.Dock.{reaches}
use Rattle.idx_events.specs.declared.event.Event.TheVariants.{Ship}
use Rattle.idx_drill.proofs.events.ship_piece.Given as goal

-- the files that are left exist, and with their events behind those so far all events are there
abbrev pub invariant-loop-file : goal.invariant-loop-file
invariant-loop-file l =
    record {
      exist : All (λ file. file < block_count l.header) l.file-iterator;
      events : l.events.items ++ map (λ file. Ship 0 0 l.piece.id file) (filter (reaches l.header l.piece.region) l.file-iterator)
          ≡ l.fn.events.items ++ map (λ file. Ship 0 0 l.piece.id file) (filter (reaches l.header l.piece.region) (file_numbers (placing_of l.header)));
    }
