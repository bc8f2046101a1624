use Rattle.std.proofs.Common.{◌≡◌, map, take}
use Rattle.idx_layout.specs.Files.{length_of_file}
use Rattle.idx_layout.specs.OfHeader.{placing_of}
use Rattle.idx_gather.proofs.begun.lengths_of.Given as goal

abbrev pub invariant-loop-dock : goal.invariant-loop-dock
invariant-loop-dock l = l.lengths.items ≡ map (λ d. length_of_file (placing_of l.header) d.file) (take l.dock-index l.docks)
