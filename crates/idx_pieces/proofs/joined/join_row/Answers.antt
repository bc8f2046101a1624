use Rattle.std.proofs.Common.{◌+◌, ◌*◌, ◌≤◌, length, sym}
use Rattle.std.specs.Prelude.{◌==◌}
use Rattle.idx_geom.specs.Region.{points}
use Rattle.idx_pieces.specs.declared.parcel.Parcel.{Parcel}
use Rattle.idx_pieces.proofs.JoinSteps.{found_has}
use Rattle.idx_pieces.proofs.joined.join_row.Goals as goal

pub row_of-requires-clause-room : goal.row_of-requires-clause-room
row_of-requires-clause-room c =
    found_has (λ (parcel : Parcel). length (points parcel.region) * (c.args.row.now.before + c.args.row.now.size) ≤ length parcel.bytes)
    (λ (parcel : Parcel). parcel.rank == c.args.rank) c.args.parcels.now c.in-Some.parcel.now (sym c.in-Some.ensures) c.requires.room
