use Rattle.std.proofs.Common.{ℕ, List, [], ◌∷◌}
use Rattle.idx_lanes.specs.declared.lane.Lane.{Lane}
use Rattle.idx_lanes.specs.Copies.{IsWanted}
use Rattle.idx_block.specs.Tiles.{pair_of}
use Rattle.idx_block.proofs.TileLemmas.{pair-first, pair-made, pair-second, two_is}
use Rattle.idx_block.proofs.tile.copy_four.Goals as goal

pub returns : goal.returns
returns g c = λ want right.
    let size : ℕ = g.S.Sample.bytes c.args.sample in
    let lanes : List Lane = pair_of c.args.one 1 ∷ [] in
    pair-made want size lanes c.args.two 2 c.args.from c.args.place c.args.into.now c.copy_two.new.into c.copy_two-2.new.into two_is
    (c.copy_two.ensures want (pair-first (IsWanted want size c.args.samples.now) lanes c.args.two 2 c.args.from c.args.place right))
    (c.copy_two-2.ensures want (pair-second (IsWanted want size c.args.samples.now) lanes c.args.two 2 c.args.from c.args.place two_is right))
