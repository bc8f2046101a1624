use Rattle.std.proofs.Common.{◌≡◌, ◌++◌, replicate}
use Rattle.idx_names.proofs.numeral.append_zeros.Given as goal

abbrev pub invariant-loop : goal.invariant-loop
invariant-loop l = l.out ≡ l.initial.out ++ replicate l.counter 48
