use Rattle.std.proofs.Common.{◌≡◌, drop}
use Rattle.std.specs.List.{flat_map, range_with_len}
use Rattle.idx_ship.specs.Made.{bytes_before, field_runs}
use Rattle.idx_ship.proofs.run.runs_over.Given as goal

-- the runs of the fields so far are made, and the samples of the others are left
abbrev pub invariant-loop-field : goal.invariant-loop-field
invariant-loop-field l = record {
  made : l.runs.items ≡ flat_map (field_runs l.header l.region l.bytes l.spans) (range_with_len 0 l.field);
  left : l.rest ≡ drop (bytes_before l.header l.region l.field) l.bytes;
}
