use Rattle.std.proofs.Common.{◌≡◌, vec_len}
use Rattle.idxtool.proofs.outside.raw_files.Given as goal

abbrev pub invariant-loop-rank : goal.invariant-loop-rank
invariant-loop-rank l = vec_len l.raws ≡ l.rank
