use Rattle.std.proofs.Common.{List, [], ◌∷◌, subst}
use Rattle.idx_pieces.specs.Parcels.{AreParcelsOf}
use Rattle.idx_pieces.specs.declared.piece.Piece.{Piece}
use Rattle.idx_core_deliver.proofs.WholeLemmas.{alone_axes, are_many, are_samples, is_one}
use Rattle.idx_core_deliver.proofs.reading.read_piece.Goals as goal

pub read_box-requires-clause-axes : goal.read_box-requires-clause-axes
read_box-requires-clause-axes c =
    alone_axes c.args.header.now c.args.piece.now c.axes-valid.ensures.valid c.requires.piece c.in_ok-pieces.pieces.items c.in_ok-pieces.ensures

pub bytes_of_one-bytes-requires : goal.bytes_of_one-bytes-requires
bytes_of_one-bytes-requires c =
    let h = c.args.header.now in
    let are : AreParcelsOf 0 h.box (c.args.piece.now ∷ []) c.in_ok-parcels.parcels.items =
    subst (λ (pieces : List Piece). AreParcelsOf 0 h.box pieces c.in_ok-parcels.parcels.items) c.in_ok-pieces.ensures c.in_ok-parcels.ensures.parcels in
    is_one h c.args.piece.now c.axes-valid.ensures.valid c.requires.piece c.in_ok-parcels.parcels.items are

pub returns-clause-many : goal.returns-clause-many
returns-clause-many c =
    let h = c.args.header.now in
    let are : AreParcelsOf 0 h.box (c.args.piece.now ∷ []) c.in_ok-parcels.parcels.items =
    subst (λ (pieces : List Piece). AreParcelsOf 0 h.box pieces c.in_ok-parcels.parcels.items) c.in_ok-pieces.ensures c.in_ok-parcels.ensures.parcels in
    are_many h c.args.piece.now c.axes-valid.ensures.valid c.requires.piece c.in_ok-parcels.parcels.items are c.args.raw.now.bytes c.bytes_of_one-bytes.result
    c.bytes_of_one-bytes.ensures c.in_ok-parcels.ensures.full

pub returns-clause-samples : goal.returns-clause-samples
returns-clause-samples c =
    let h = c.args.header.now in
    let are : AreParcelsOf 0 h.box (c.args.piece.now ∷ []) c.in_ok-parcels.parcels.items =
    subst (λ (pieces : List Piece). AreParcelsOf 0 h.box pieces c.in_ok-parcels.parcels.items) c.in_ok-pieces.ensures c.in_ok-parcels.ensures.parcels in
    are_samples h c.args.piece.now c.axes-valid.ensures.valid c.requires.piece c.in_ok-parcels.parcels.items are c.args.raw.now.bytes c.bytes_of_one-bytes.result
    c.bytes_of_one-bytes.ensures c.in_ok-parcels.ensures.full
