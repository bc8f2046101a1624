use Rattle.std.proofs.Common.{◌≡◌, ℕ, None, sym, ap, ◌∙◌, subst}
use Rattle.idx_geom.specs.Region.{HoldsAll}
use Rattle.idx_pieces.specs.Samples.{HoldsSamples, raw_sample}
use Rattle.idx_pieces.specs.declared.piece.Piece.{Piece}
use Rattle.idx_dock.specs.Dock.{reaches, unwanted}
use Rattle.idx_core_deliver.proofs.DeliverLemmas.{does_reach, taken, wanted}
use Rattle.idx_core_deliver.proofs.WholeLemmas.{in_box}
use Rattle.idx_core_deliver.proofs.delivery.deliver_piece.Goals as goal

pub shipment_of-requires-clause-inside : goal.shipment_of-requires-clause-inside
shipment_of-requires-clause-inside c =
    let h = c.args.header.now in
    subst (λ (p : Piece). HoldsAll h.box p.region) (sym c.in_ok-filled.ensures.piece) (in_box h c.args.piece.now c.axes-valid.ensures.valid c.requires.piece)

pub shipment_of-requires-clause-reaches : goal.shipment_of-requires-clause-reaches
shipment_of-requires-clause-reaches c =
    let h = c.args.header.now in
    let reach = does_reach h c.args.dock.now c.args.piece.now c.requires.header c.requires.awaited c.requires.region c.file.ensures.valid in
    ap (λ (file : ℕ). reaches h c.in_ok-filled.filled.piece.region file) c.file.ensures.value
    ∙ ap (λ (p : Piece). reaches h p.region c.args.dock.now.file) c.in_ok-filled.ensures.piece ∙ reach

pub unreachable-requires : goal.unreachable-requires
unreachable-requires c =
    let none : unwanted c.args.dock.now c.in_ok-shipment.shipment ≡ None =
    wanted c.args.header.now c.args.dock.now c.args.piece.now c.requires.header c.requires.awaited c.requires.region c.in_ok-filled.filled c.in_ok-shipment.shipment
    c.in_ok-filled.ensures.piece (c.in_ok-shipment.ensures.file ∙ c.file.ensures.value) c.in_ok-shipment.ensures.shipment in
    absurd (let wrong = sym none ∙ c.in-Err.ensures.cases in cc)

pub returns-clause-done : goal.returns-clause-done
returns-clause-done c =
    let h = c.args.header.now in
    let raw = c.args.raw.now.bytes in
    let inside = subst (λ (p : Piece). HoldsAll h.box p.region) (sym c.in_ok-filled.ensures.piece) (in_box h c.args.piece.now c.axes-valid.ensures.valid c.requires.piece) in
    let held = subst (λ (p : Piece). HoldsSamples h (raw_sample h raw) p.region c.in_ok-filled.filled.bytes) (sym c.in_ok-filled.ensures.piece) c.in_ok-filled.ensures.samples in
    taken h c.args.dock.now c.args.piece.now c.requires.header c.requires.awaited c.requires.region c.in_ok-filled.filled c.in_ok-shipment.shipment
    c.in_ok-filled.ensures.piece (c.in_ok-shipment.ensures.file ∙ c.file.ensures.value) c.in_ok-shipment.ensures.shipment
    raw c.deliver.new.self c.requires.whole inside held c.in-Ok.ensures.kept
