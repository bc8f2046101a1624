use Rattle.std.proofs.Common.{◌≡◌, Ok}
use Rattle.std.specs.Prelude.{map}
use Rattle.idx_ranks.proofs.settling.all_read.Given as goal

abbrev pub invariant-loop-read : goal.invariant-loop-read
invariant-loop-read l = l.yielded ≡ map Ok l.all.items
