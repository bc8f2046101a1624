use Rattle.std.proofs.Common.{◌≡◌, ◌++◌, take}
use Rattle.std.specs.List.{flat_map}
use Rattle.idx_commands.specs.Summary.{field_line}
use Rattle.idx_commands.proofs.summary.write_fields.Given as goal

abbrev pub invariant-loop-i : goal.invariant-loop-i
invariant-loop-i l = l.out ≡ l.fn.out ++ flat_map field_line (take l.i l.header.fields)
