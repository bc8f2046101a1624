use Rattle.idx_scatter.proofs.LevelLemmas.{first-all}
use Rattle.idx_scatter.proofs.scatter.scatter_block.Goals as goal

pub returns-then-block-eq0 : goal.returns-then-block-eq0
returns-then-block-eq0 c =
    first-all c.args.order.now c.args.bits c.args.block c.args.size c.args.samples.now c.args.into.now c.scatter_first_block.new.into c.if-block-eq0.true c.scatter_first_block.ensures
