use Rattle.std.proofs.Common.{◌≡◌, ◌∙◌, rules}
use Rattle.idxtool.proofs.outside.tcp_doors.Goals as goal

pub returns-clause-workers : goal.returns-clause-workers
returns-clause-workers g c v given =
    let many : c.workers_of-workers.result ≡ v.workers = c.workers_of-workers.ensures.serve v given in
    let all : c.loop-worker.worker ≡ c.workers_of-workers.result = search rules in
    c.loop-worker.invariant ∙ (all ∙ many)
