use Rattle.std.proofs.Common.{◌≡◌, drop}
use Rattle.idx_outside.specs.Files.{has_folder}
use Rattle.idx_memory.proofs.files.has_folder.Given as goal

abbrev pub invariant-loop-file : goal.invariant-loop-file
invariant-loop-file l = has_folder l.folder l.files ≡ has_folder l.folder (drop l.file-index l.files)
