use Rattle.std.proofs.Common.{◌≡◌, ◌++◌, take, codes}
use Rattle.std.specs.List.{flat_map}
use Rattle.idx_commands.specs.Summary.{ends_text}
use Rattle.idx_commands.proofs.summary.write_box.Given as goal

abbrev pub invariant-loop-axis : goal.invariant-loop-axis
invariant-loop-axis l = l.out ≡ l.fn.out ++ codes "box" ++ flat_map ends_text (take l.axis l.region)
