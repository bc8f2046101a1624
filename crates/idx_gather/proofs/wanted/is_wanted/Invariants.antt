use Rattle.std.proofs.Common.{◌≡◌, false, take}
use Rattle.std.specs.List.{list_any}
use Rattle.idx_dock.specs.Dock.{reaches}
use Rattle.idx_gather.proofs.wanted.is_wanted.Given as goal

-- the piece has no point in the files before
abbrev pub invariant-loop-file : goal.invariant-loop-file
invariant-loop-file l = list_any (reaches l.header l.piece.region) (take l.file-index l.files) ≡ false
