use Rattle.std.proofs.Common.{◌≡◌, ◌*◌, ◌≤◌}
use Rattle.idx_pieces.specs.Reading.{bytes_before}
use Rattle.idx_pieces.proofs.digits.point_bytes.Given as goal

abbrev pub invariant-fields : goal.invariant-fields
invariant-fields l = record {
  bytes : l.bytes ≡ bytes_before l.header l.field;
  few : l.bytes ≤ 64 * l.field;
}
