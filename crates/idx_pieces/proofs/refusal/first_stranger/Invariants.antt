use Rattle.std.proofs.Common.{◌≡◌, drop}
use Rattle.std.specs.Prelude.{not}
use Rattle.std.specs.List.{position_from}
use Rattle.idx_pieces.specs.Refusals.{is_of_piece, stranger_at}
use Rattle.idx_pieces.proofs.refusal.first_stranger.Given as goal

-- none of the parcels so far is a stranger
abbrev pub invariant-loop-at : goal.invariant-loop-at
invariant-loop-at l =
    position_from (λ parcel. not (is_of_piece l.header l.piece parcel)) l.at (drop l.at l.parcels) ≡ stranger_at l.header l.piece l.parcels
