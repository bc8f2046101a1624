use Rattle.std.proofs.Common.{◌≡◌, ◌++◌, take}
use Rattle.idx_fields.specs.Fields.{fields_lines}
use Rattle.idx_text.specs.Entries.{lines_text}
use Rattle.idx_header.proofs.write.write_field_lines.Given as goal

abbrev pub invariant-loop-i : goal.invariant-loop-i
invariant-loop-i l = l.out ≡ l.fn.out ++ lines_text (fields_lines (take l.i l.fields))
