use Rattle.std.proofs.Common.{◌<◌, length, arith}
use Rattle.std.proofs.lemmas.Grind.{common_steps}
use Rattle.idx_ranks.proofs.QueueLemmas.{full_popped, popped, queue_other}
use Rattle.idx_ranks.proofs.sorting.take_parcel.Goals as goal

pub returns-clause-taken : goal.returns-clause-taken
returns-clause-taken c =
    let lt : c.args.rank < length c.args.queues.now.items = grind (arith, common_steps) in
    popped c.args.queues.now.items c.args.rank c.index_mut.result.now c.pop.new.self c.pop.result c.unwrap.result lt c.index_mut.ensures.value c.pop.ensures.items c.unwrap.ensures

pub returns-clause-others : goal.returns-clause-others
returns-clause-others c = λ i differ. queue_other c.args.queues.now.items c.args.rank c.pop.new.self i differ

pub returns-clause-full : goal.returns-clause-full
returns-clause-full c = λ h told all.
    let lt : c.args.rank < length c.args.queues.now.items = grind (arith, common_steps) in
    full_popped h told c.args.queues.now.items c.args.rank c.index_mut.result.now c.pop.new.self c.pop.result c.unwrap.result lt c.index_mut.ensures.value c.pop.ensures.items c.unwrap.ensures all
