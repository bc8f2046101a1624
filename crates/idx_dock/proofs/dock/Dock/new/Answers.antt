use Rattle.std.proofs.Common.{ap, sym, subst, arith, ◌∙◌, List}
use Rattle.std.specs.Prelude.{All, map}
use Rattle.idx_geom.specs.Region.{upper_ends}
use Rattle.idx_hz.specs.Mask.{HasAddress}
use Rattle.idx_pieces.specs.declared.piece.Piece.{Piece}
use Rattle.idx_dock.specs.Dock.{awaited_of, reaching}
use Rattle.idx_dock.proofs.DockLemmas.{file_exists, file_end, pieces_have_addresses, dock_made}
use Rattle.idx_dock.proofs.dock.Dock.new.Goals as goal

pub overflow_add-end : goal.overflow_add-end
overflow_add-end c =
    let h = c.args.header.now in
    omega (arith, c.blocks_per_file.ensures.value, file_end h c.args.file c.blocks_per_file.ensures.valid (file_exists h c.args.file c.requires.file))

pub await_pieces-requires-clause-address : goal.await_pieces-requires-clause-address
await_pieces-requires-clause-address c =
    subst (λ (xs : List Piece). All (λ piece. HasAddress c.args.header.now.mask (upper_ends piece.region)) xs) (sym c.deref.ensures.value)
    (pieces_have_addresses c.args.header.now c.args.pieces.now.items c.blocks_per_file.ensures.valid c.requires.division)

pub invariant_of-result : goal.invariant_of-result
invariant_of-result c =
    let h = c.args.header.now in
    let made = dock_made h c.in_ok-copy.field-0 c.args.pieces.now.items c.args.file c.in_ok-awaited.awaited.items c.blocks_per_file.ensures.valid c.in_ok-copy.ensures (file_exists h c.args.file c.requires.file) c.requires.division
    (c.in_ok-awaited.ensures ∙ ap (λ (xs : List Piece). map awaited_of (reaching h c.args.file xs)) c.deref.ensures.value) in
    (made, record { counts_is = c.in_ok-passed.ensures.len ∙ c.len.ensures; empty = c.new.ensures.items })
