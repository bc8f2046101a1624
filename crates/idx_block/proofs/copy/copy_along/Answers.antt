use Rattle.std.proofs.Common.{ℕ, ◌-◌, ◌++◌, List, drop, sym, subst}
use Rattle.idx_lanes.specs.declared.lane.Lane.{Lane}
use Rattle.idx_lanes.specs.Copies.{AreMade, EachCopy, IsWanted, IsWithin}
use Rattle.idx_block.specs.Tiles.{tile_lanes}
use Rattle.idx_block.proofs.TilesLemmas.{each-tiled, tiled-made}
use Rattle.idx_block.proofs.copy.copy_along.Goals as goal

pub copy_tiles-requires-clause-within : goal.copy_tiles-requires-clause-within
copy_tiles-requires-clause-within c =
    let lanes : List Lane = drop (5 - c.args.lanes.now.axes) c.args.lanes.now.lanes in
    let tiles = c.in-Some.tiles in
    let tiled : List Lane = drop (5 - tiles.lanes.axes) tiles.lanes.lanes in
    let tile : List Lane = tile_lanes tiles.tile.one tiles.tile.two tiles.tile.four in
    let size : ℕ = c.args.size in
    subst (λ (ls : List Lane). EachCopy (IsWithin size c.args.samples.now c.args.into.now) (ls ++ tile) tiles.lanes.from 0) (sym c.as_slice.ensures)
    (subst (λ (n : ℕ). EachCopy (IsWithin size c.args.samples.now c.args.into.now) (tiled ++ tile) n 0) (sym c.in-Some.ensures.from)
    (each-tiled (IsWithin size c.args.samples.now c.args.into.now) lanes tiled tiles.tile.one tiles.tile.two tiles.tile.four c.args.lanes.now.from 0 c.in-Some.ensures.tiled c.requires.within))

pub returns-in-Some : goal.returns-in-Some
returns-in-Some c = λ want right.
    let lanes : List Lane = drop (5 - c.args.lanes.now.axes) c.args.lanes.now.lanes in
    let tiles = c.in-Some.tiles in
    let tiled : List Lane = drop (5 - tiles.lanes.axes) tiles.lanes.lanes in
    let tile : List Lane = tile_lanes tiles.tile.one tiles.tile.two tiles.tile.four in
    let size : ℕ = c.args.size in
    let from : ℕ = c.args.lanes.now.from in
    let old : List ℕ = c.args.into.now in
    let new : List ℕ = c.copy_tiles.new.into in
    let wanted : EachCopy (IsWanted want size c.args.samples.now) (c.as_slice.result.now ++ tile) tiles.lanes.from 0 =
    subst (λ (ls : List Lane). EachCopy (IsWanted want size c.args.samples.now) (ls ++ tile) tiles.lanes.from 0) (sym c.as_slice.ensures)
    (subst (λ (n : ℕ). EachCopy (IsWanted want size c.args.samples.now) (tiled ++ tile) n 0) (sym c.in-Some.ensures.from)
    (each-tiled (IsWanted want size c.args.samples.now) lanes tiled tiles.tile.one tiles.tile.two tiles.tile.four from 0 c.in-Some.ensures.tiled right)) in
    let made : AreMade want size (tiled ++ tile) from 0 old new =
    subst (λ (n : ℕ). AreMade want size (tiled ++ tile) n 0 old new) c.in-Some.ensures.from
    (subst (λ (ls : List Lane). AreMade want size (ls ++ tile) tiles.lanes.from 0 old new) c.as_slice.ensures (c.copy_tiles.ensures want wanted)) in
    tiled-made want size lanes tiled tiles.tile.one tiles.tile.two tiles.tile.four from 0 old new c.in-Some.ensures.tiled made
