use Rattle.std.proofs.Common.{◌≡◌, vec_len}
use Rattle.idxtool.proofs.outside.tcp_doors.Given as goal

abbrev pub invariant-loop-worker : goal.invariant-loop-worker
invariant-loop-worker g l = vec_len l.doors ≡ l.worker
