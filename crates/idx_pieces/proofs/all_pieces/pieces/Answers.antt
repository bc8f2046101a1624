use Rattle.std.proofs.Common.{◌++◌, ◌∷◌, [], ℕ, List, map, take, sym, ap, ◌∙◌, arith}
use Rattle.std.proofs.lemmas.List.{map_more, take_all}
use Rattle.idx_pieces.specs.Pieces.{piece_at}
use Rattle.idx_pieces.specs.declared.piece.Piece.{Piece}
use Rattle.idx_pieces.proofs.MadeLemmas.{id_known, ids_made}
use Rattle.idx_pieces.proofs.all_pieces.pieces.Goals as goal

pub returns : goal.returns
returns c =
    let f : ℕ → Piece = piece_at c.args.header.now c.args.e c.args.n in
    let ids = ids_made c.args.header.now c.mask.result c.region.result c.args.e c.deref-id-items.result.now c.mask.ensures.value c.region.ensures.value (c.deref-id-items.ensures.value ∙ c.in_ok-ids.ensures) in
    c.loop-id.invariant ∙ ap (map f) (take_all c.loop-id.id-index c.deref-id-items.result.now (omega arith) ∙ ids)

pub piece_at-requires-clause-small : goal.piece_at-requires-clause-small
piece_at-requires-clause-small c =
    let ids = ids_made c.args.header.now c.mask.result c.region.result c.args.e c.deref-id-items.result.now c.mask.ensures.value c.region.ensures.value (c.deref-id-items.ensures.value ∙ c.in_ok-ids.ensures) in
    (id_known c.args.header.now c.args.e c.loop-id.id-index c.deref-id-items.result.now ids (omega arith)).small

pub piece_at-requires-clause-some : goal.piece_at-requires-clause-some
piece_at-requires-clause-some c =
    let ids = ids_made c.args.header.now c.mask.result c.region.result c.args.e c.deref-id-items.result.now c.mask.ensures.value c.region.ensures.value (c.deref-id-items.ensures.value ∙ c.in_ok-ids.ensures) in
    (id_known c.args.header.now c.args.e c.loop-id.id-index c.deref-id-items.result.now ids (omega arith)).some

pub loop-id-preserved : goal.loop-id-preserved
loop-id-preserved c =
    let f : ℕ → Piece = piece_at c.args.header.now c.args.e c.args.n in
    c.in_ok-push.ensures.items
    ∙ ap (λ (xs : List Piece). xs ++ c.in_ok-piece_at.field-0 ∷ []) c.loop-id.invariant
    ∙ ap (λ (q : Piece). map f (take c.loop-id.id-index c.deref-id-items.result.now) ++ q ∷ []) c.in_ok-piece_at.ensures
    ∙ sym (map_more f c.deref-id-items.result.now c.loop-id.id-index 0 (omega arith))
