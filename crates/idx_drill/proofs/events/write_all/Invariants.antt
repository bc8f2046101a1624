use Rattle.std.proofs.Common.{◌≡◌, ◌++◌, map}
use Rattle.idx_layout.specs.OfHeader.{placing_of}
use Rattle.idx_layout.specs.Placing.{file_numbers}
use Rattle.idx_events.specs.declared.event.Event.TheVariants.{Write}
use Rattle.idx_drill.proofs.events.write_all.Given as goal

-- with the events of the files that are left behind those so far all events are there
abbrev pub invariant-loop-file : goal.invariant-loop-file
invariant-loop-file l =
    l.events.items ++ map (λ file. Write 0 0 file) l.file-iterator ≡ l.fn.events.items ++ map (λ file. Write 0 0 file) (file_numbers (placing_of l.header))
