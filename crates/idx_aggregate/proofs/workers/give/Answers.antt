use Rattle.std.proofs.Common.{◌≡◌, ◌<◌, ◌∷◌, [], ◌++◌, length, get_or, arith}
use Rattle.std.proofs.lemmas.Grind.{common_steps}
use Rattle.idx_aggregate.specs.declared.job.Job.{Job}
use Rattle.idx_aggregate.proofs.WorkerLemmas.{given_at}
use Rattle.idx_aggregate.proofs.workers.give.Goals as goal

pub returns-clause-given : goal.returns-clause-given
returns-clause-given c =
    let job : Job = record { loads = c.push_back.new.self; made = c.index_mut.result.now.made } in
    let within : c.args.worker < length c.args.jobs.now.items = omega (arith, c.requires, c.args.jobs.now.ok.0) in
    let more : job.loads.items ≡ (get_or c.args.jobs.now.items c.args.worker job).loads.items ++ c.args.load ∷ [] = grind (arith, common_steps) in
    given_at c.args.jobs.now.items c.args.worker c.args.load job within more
