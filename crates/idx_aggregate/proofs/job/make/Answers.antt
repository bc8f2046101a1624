use Rattle.std.proofs.Common.{◌∙◌, List, ap, sym, subst}
use Rattle.idx_geom.specs.Region.{HoldsAll}
use Rattle.idx_pieces.specs.Joined.{HoldsWhereAllDo}
use Rattle.idx_pieces.specs.Samples.{region_bytes}
use Rattle.idx_pieces.specs.declared.parcel.Parcel.{Parcel}
use Rattle.idx_pieces.specs.declared.piece.Piece.{Piece}
use Rattle.idx_aggregate.proofs.HeldLemmas.{has_length}
use Rattle.idx_aggregate.proofs.WorkerLemmas.{piece_inside}
use Rattle.idx_aggregate.proofs.job.make.Goals as goal

pub encode-requires-clause-inside : goal.encode-requires-clause-inside
encode-requires-clause-inside c =
    subst (λ (piece : Piece). HoldsAll c.args.header.now.box piece.region) (sym c.in-Ok.ensures.ok.1) (piece_inside c.args.header.now c.args.load.piece c.requires.piece)

pub encode-requires-clause-bytes : goal.encode-requires-clause-bytes
encode-requires-clause-bytes c =
    let h = c.args.header.now in
    let load = c.args.load in
    has_length h load.piece load.parcels c.axes-valid.ensures.valid c.requires.piece c.requires.legal c.requires.whole c.in-Ok.filled.bytes
    (subst (λ (parcels : List Parcel). HoldsWhereAllDo h load.piece parcels c.in-Ok.filled.bytes) c.into_vec.ensures c.in-Ok.ensures.samples)
    ∙ ap (λ (piece : Piece). region_bytes h piece.region) (sym c.in-Ok.ensures.ok.1)
