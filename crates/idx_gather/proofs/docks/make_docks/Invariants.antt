use Rattle.std.proofs.Common.{◌≡◌, map, take}
use Rattle.idx_dock.specs.Dock.{new_dock}
use Rattle.idx_gather.proofs.docks.make_docks.Given as goal

abbrev pub invariant-loop-file : goal.invariant-loop-file
invariant-loop-file l = l.docks.items ≡ map (new_dock l.header l.pieces.items) (take l.file-index l.files)
