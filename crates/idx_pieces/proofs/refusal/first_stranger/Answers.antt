use Rattle.std.proofs.Common.{Bool, sym, ap, ◌∙◌, arith}
use Rattle.std.specs.Prelude.{not}
use Rattle.idx_pieces.specs.Refusals.{is_of_piece}
use Rattle.idx_pieces.specs.declared.parcel.Parcel.{Parcel}
use Rattle.idx_pieces.proofs.RefusalLemmas.{position_here, position_later, position_none}
use Rattle.idx_pieces.proofs.refusal.first_stranger.Goals as goal

pub loop-at-preserved : goal.loop-at-preserved
loop-at-preserved c =
    let test : Parcel → Bool = λ (parcel : Parcel). not (is_of_piece c.args.header.now c.args.piece.now parcel) in
    sym (position_later test c.args.parcels.now c.loop-at.at c.index-parcels-at.result (omega arith) c.index-parcels-at.is
    (ap not (sym c.is_of_piece.ensures ∙ c.if-not-is_of_piece.false))) ∙ c.loop-at.invariant

pub returns : goal.returns
returns c =
    let test : Parcel → Bool = λ (parcel : Parcel). not (is_of_piece c.args.header.now c.args.piece.now parcel) in
    sym (position_none test c.args.parcels.now c.loop-at.at (omega arith)) ∙ c.loop-at.invariant

pub returns-then-not-is_of_piece : goal.returns-then-not-is_of_piece
returns-then-not-is_of_piece c =
    let test : Parcel → Bool = λ (parcel : Parcel). not (is_of_piece c.args.header.now c.args.piece.now parcel) in
    sym (position_here test c.args.parcels.now c.loop-at.at c.index-parcels-at.result (omega arith) c.index-parcels-at.is
    (ap not (sym c.is_of_piece.ensures ∙ c.if-not-is_of_piece.true))) ∙ c.loop-at.invariant
