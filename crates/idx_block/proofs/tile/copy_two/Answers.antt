use Rattle.std.proofs.Common.{ℕ, []}
use Rattle.idx_lanes.specs.Copies.{IsWanted}
use Rattle.idx_block.proofs.TileLemmas.{one_is, pair-first, pair-made, pair-second}
use Rattle.idx_block.proofs.tile.copy_two.Goals as goal

pub returns : goal.returns
returns g c = λ want right.
    let size : ℕ = g.S.Sample.bytes c.args.sample in
    pair-made want size [] c.args.one 1 c.args.from c.args.place c.args.into.now c.copy_one.new.into c.copy_one-2.new.into one_is
    (c.copy_one.ensures want (pair-first (IsWanted want size c.args.samples.now) [] c.args.one 1 c.args.from c.args.place right))
    (c.copy_one-2.ensures want (pair-second (IsWanted want size c.args.samples.now) [] c.args.one 1 c.args.from c.args.place one_is right))
