use Rattle.std.proofs.Common.{◌≡◌, drop}
use Rattle.idx_outside.specs.Files.{file_at}
use Rattle.idx_memory.proofs.files.place_of.Given as goal

abbrev pub invariant-loop-place : goal.invariant-loop-place
invariant-loop-place l = file_at l.path l.files ≡ file_at l.path (drop l.place l.files)
