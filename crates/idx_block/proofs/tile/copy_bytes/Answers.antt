use Rattle.std.proofs.Common.{◌≡◌, ◌+◌, ◌-◌, arith}
use Rattle.idx_block.proofs.TileLemmas.{tile-made}
use Rattle.idx_block.proofs.tile.copy_bytes.Goals as goal

pub returns : goal.returns
returns c = λ want right.
    let tile = c.args.tile in
    let eight : c.args.place + 8 - c.args.place ≡ 8 = omega arith in
    tile-made want c.args.samples.now c.args.into.now tile.one tile.two tile.four c.args.from c.args.place c.requires.within right
    (c.args.place + 8 - c.args.place) c.copy_from_slice.new.self c.copy_from_slice.ensures.after eight
