use Rattle.std.proofs.Common.{◌≡◌, ◌*◌, ◌≤◌, take, map, sum}
use Rattle.idx_fields.specs.Field.{sample_bytes}
use Rattle.idx_header.proofs.header.total_bytes.Given as goal

abbrev pub invariant-loop-i : goal.invariant-loop-i
invariant-loop-i l = (l.total ≡ sum (map sample_bytes (take l.i l.fields))) × (l.total ≤ 64 * l.i)
