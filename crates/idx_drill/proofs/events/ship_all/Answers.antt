use Rattle.std.proofs.Common.{sym, subst, ap, ◌∙◌, ◌++◌, filter, map, List, ◌≡◌, length, ◌<◌, get_or}
use Rattle.std.proofs.lemmas.List.Elements.{All-get_or}
use Rattle.idx_geom.specs.Region.{upper_ends}
use Rattle.idx_hz.specs.Mask.{HasAddress}
use Rattle.idx_layout.specs.OfHeader.{placing_of}
use Rattle.idx_layout.specs.Placing.{file_numbers}
use Rattle.idx_pieces.specs.declared.piece.Piece.{Piece}
use Rattle.idx_dock.specs.Dock.{reaches}
use Rattle.idx_events.specs.declared.event.Event.{Event}
use Rattle.idx_events.specs.declared.event.Event.TheVariants.{Ship}
use Rattle.idx_drill.proofs.EventLemmas.{flat_map-take_more}
use Rattle.idx_drill.proofs.events.ship_all.Goals as goal

pub ship_piece-requires : goal.ship_piece-requires
ship_piece-requires c =
    let P : Piece → Type 0 = λ piece. HasAddress c.args.header.now.mask (upper_ends piece.region) in
    let items : List Piece = c.args.pieces.now.items in
    let within : c.loop-piece.piece-index < length items = subst (λ (xs : List Piece). c.loop-piece.piece-index < length xs) c.deref-piece-items.ensures.value c.loop-piece-test.true in
    let at : c.piece-item.result ≡ get_or items c.loop-piece.piece-index c.piece-item.result =
    c.piece-item.is ∙ ap (λ (xs : List Piece). get_or xs c.loop-piece.piece-index c.piece-item.result) c.deref-piece-items.ensures.value in
    subst P (sym at) (All-get_or P items c.loop-piece.piece-index c.piece-item.result within c.requires)

pub loop-piece-preserved : goal.loop-piece-preserved
loop-piece-preserved c =
    let files : Piece → List Event = λ piece. map (λ file. Ship 0 0 piece.id file) (filter (reaches c.args.header.now piece.region) (file_numbers (placing_of c.args.header.now))) in
    let items : List Piece = c.args.pieces.now.items in
    let within : c.loop-piece.piece-index < length items = subst (λ (xs : List Piece). c.loop-piece.piece-index < length xs) c.deref-piece-items.ensures.value c.loop-piece-test.true in
    let at : c.piece-item.result ≡ get_or items c.loop-piece.piece-index c.piece-item.result =
    c.piece-item.is ∙ ap (λ (xs : List Piece). get_or xs c.loop-piece.piece-index c.piece-item.result) c.deref-piece-items.ensures.value in
    c.in_ok-ship_piece.ensures ∙ ap (λ l. l ++ files c.piece-item.result) c.loop-piece.invariant
    ∙ flat_map-take_more files c.args.events.now.items items c.loop-piece.piece-index c.piece-item.result within at
