use Rattle.std.proofs.Common.{◌≡◌, drop}
use Rattle.std.specs.Prelude.{find, not}
use Rattle.idx_pieces.specs.Refusals.{has_parcel}
use Rattle.idx_pieces.proofs.refusal.first_missing.Given as goal

-- none of the ranks so far is missing
abbrev pub invariant-loop-rank : goal.invariant-loop-rank
invariant-loop-rank l =
    find (λ rank. not (has_parcel l.parcels rank)) (drop l.rank-index l.rank-items) ≡ find (λ rank. not (has_parcel l.parcels rank)) l.rank-items
