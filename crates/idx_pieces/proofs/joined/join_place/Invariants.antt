use Rattle.std.proofs.Common.{◌≡◌, ◌++◌, take}
use Rattle.std.specs.List.{flat_map}
use Rattle.idx_pieces.specs.Joined.{rank_bytes}
use Rattle.idx_pieces.proofs.joined.join_place.Given as goal

-- the bytes of the ranks so far
abbrev pub invariant-loop-rank : goal.invariant-loop-rank
invariant-loop-rank l =
    l.bytes ≡ l.initial.bytes ++ flat_map (rank_bytes l.parcels l.row.places l.row.before l.row.size l.row.place) (take l.rank-index l.rank-items)
