use Rattle.idx_pieces.proofs.RefusalLemmas.{other_region, same_region}
use Rattle.idx_pieces.proofs.refusal.are_same.Goals as goal

pub returns : goal.returns
returns c = same_region c.args.region.now c.args.other.now c.holds.result c.holds-2.result c.holds.ensures.ends c.holds-2.ensures.ends c.holds-2.ensures.points c.if-not-holds.false

pub returns-then-not-holds : goal.returns-then-not-holds
returns-then-not-holds c = other_region c.args.region.now c.args.other.now c.holds.result c.holds.ensures.points c.if-not-holds.true
