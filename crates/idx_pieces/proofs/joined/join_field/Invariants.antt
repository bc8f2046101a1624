use Rattle.std.proofs.Common.{◌≡◌, ◌++◌}
use Rattle.std.specs.List.{flat_map, range_with_len}
use Rattle.idx_pieces.specs.Joined.{place_bytes}
use Rattle.idx_pieces.proofs.joined.join_field.Given as goal

-- the bytes of the places so far
abbrev pub invariant-loop-place : goal.invariant-loop-place
invariant-loop-place l = l.bytes ≡ l.initial.bytes ++ flat_map (place_bytes l.piece l.parcels l.places l.before l.size) (range_with_len 0 l.place)
