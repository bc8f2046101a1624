use Rattle.std.proofs.Common.{◌≡◌, ◌-◌, length, map, take, get_or}
use Rattle.std.specs.Prelude.{find}
use Rattle.std.specs.List.{range_with_len}
use Rattle.idx_pieces.specs.Refusals.{double_at, has_parcel}
use Rattle.idx_pieces.proofs.refusal.first_double.Given as goal

-- no rank of the parcels so far came before
abbrev pub invariant-loop-at : goal.invariant-loop-at
invariant-loop-at l =
    find (λ at. has_parcel (take at l.parcels) (get_or (map (λ parcel. parcel.rank) l.parcels) at 0)) (range_with_len l.at (length l.parcels - l.at))
    ≡ double_at l.parcels
