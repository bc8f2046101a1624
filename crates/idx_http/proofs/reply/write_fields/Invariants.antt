use Rattle.std.proofs.Common.{◌≡◌, ◌++◌, take}
use Rattle.idx_http.specs.Reply.{field_lines}
use Rattle.idx_http.proofs.reply.write_fields.Given as goal

abbrev pub invariant-loop-field : goal.invariant-loop-field
invariant-loop-field l = l.out ≡ l.fn.out ++ field_lines (take l.field-index l.fields)
