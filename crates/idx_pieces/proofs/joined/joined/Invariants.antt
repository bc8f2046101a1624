use Rattle.std.proofs.Common.{◌≡◌, ◌*◌, ◌≤◌}
use Rattle.std.specs.List.{flat_map, range_with_len}
use Rattle.idx_header.specs.Header.{sample_bytes_of}
use Rattle.idx_pieces.specs.Joined.{bytes_before, field_bytes, place_count}
use Rattle.idx_pieces.proofs.joined.joined.Given as goal

-- the bytes of the fields so far
abbrev pub invariant-loop-field : goal.invariant-loop-field
invariant-loop-field l = record {
  bytes : l.bytes ≡ flat_map (λ field. field_bytes l.piece l.parcels (place_count l.header l.piece) (bytes_before l.header field) (sample_bytes_of l.header field)) (range_with_len 0 l.field);
  before : l.before ≡ bytes_before l.header l.field;
  small : l.before ≤ 64 * l.field;
}
