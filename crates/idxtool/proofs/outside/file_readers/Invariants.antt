use Rattle.std.proofs.Common.{◌≡◌, vec_len}
use Rattle.idxtool.proofs.outside.file_readers.Given as goal

abbrev pub invariant-loop-worker : goal.invariant-loop-worker
invariant-loop-worker l = vec_len l.readers ≡ l.worker
