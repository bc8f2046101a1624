use Rattle.std.proofs.Common.{◌≡◌, take, drop}
use Rattle.idx_header.specs.Keys.{repeated, repeated_behind}
use Rattle.idx_header.proofs.keys.first_repeat.Given as goal

abbrev pub invariant-loop-i : goal.invariant-loop-i
invariant-loop-i l = repeated l.sections ≡ repeated_behind (take l.i l.sections) (drop l.i l.sections)
