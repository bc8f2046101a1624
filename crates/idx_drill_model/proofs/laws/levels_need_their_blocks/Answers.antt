use Rattle.idx_drill_model.proofs.NeededLemmas.{needed-is}
use Rattle.idx_drill_model.proofs.RoundLemmas.{count-is, one-round, round-blocks, setting-rounds, sum-all}
use Rattle.idx_drill_model.proofs.laws.levels_need_their_blocks.Goals as goal

pub returns-clause-needed : goal.returns-clause-needed
returns-clause-needed c = needed-is

pub returns-clause-round : goal.returns-clause-round
returns-clause-round c = one-round

pub returns-clause-blocks : goal.returns-clause-blocks
returns-clause-blocks c = round-blocks

pub returns-clause-events : goal.returns-clause-events
returns-clause-events c = setting-rounds

pub returns-clause-sum : goal.returns-clause-sum
returns-clause-sum c = sum-all

pub returns-clause-count : goal.returns-clause-count
returns-clause-count c = count-is
