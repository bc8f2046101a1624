use Rattle.std.proofs.Common.{◌≡◌, ◌++◌, take}
use Rattle.idx_names.specs.TimeTemplate.{folder_text}
use Rattle.idx_names.proofs.path.append_folder.Given as goal

abbrev pub invariant-loop-piece : goal.invariant-loop-piece
invariant-loop-piece l = l.path ≡ l.fn.path ++ folder_text l.step (take l.piece-index l.pieces)
