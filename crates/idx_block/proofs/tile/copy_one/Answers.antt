use Rattle.std.proofs.Common.{◌*◌, ap}
use Rattle.idx_lanes.proofs.CopyLemmas.{copy-made}
use Rattle.idx_block.proofs.tile.copy_one.Goals as goal

pub returns : goal.returns
returns g c = λ want right.
    copy-made want (g.S.Sample.bytes c.args.sample) c.args.from c.args.place (c.args.place * c.bytes.result) c.args.samples.now c.args.into.now c.copy.new.out
    c.requires.within.0 c.requires.within.1 (ap (λ n. c.args.place * n) c.bytes.ensures) c.copy.ensures right
