use Rattle.std.proofs.Common.{◌≡◌, List, [], length, sym, subst, arith}
use Rattle.std.proofs.lemmas.Grind.{common_steps}
use Rattle.std.proofs.lemmas.List.{nil_from_length}
use Rattle.idx_ranks.specs.declared.load.Load.{Load}
use Rattle.idx_aggregate.specs.Docks.{Gain}
use Rattle.idx_aggregate.proofs.GainLemmas.{gain_none}
use Rattle.idx_aggregate.proofs.WorkerLemmas.{deliverable, delivering_all, delivering_none, may_run}
use Rattle.idx_aggregate.proofs.shipping.ship_loads.Goals as goal

pub returns-then-is_empty : goal.returns-then-is_empty
returns-then-is_empty g c =
    let short : length c.args.loads.items ≡ 0 = grind (arith, common_steps) in
    let none : c.args.loads.items ≡ [] = nil_from_length c.args.loads.items short in
    subst (λ (loads : List Load). Gain c.args.header.now loads c.args.docks.items c.args.docks.items) (sym none) (gain_none c.args.header.now c.args.docks.items)

pub run_all-requires-clause-loads : goal.run_all-requires-clause-loads
run_all-requires-clause-loads g c κs within =
    may_run c.args.header.now c.args.loads.items c.in_ok-jobs.jobs.items c.in_ok-jobs.ensures.dealt c.requires.loads

pub loop-job-init : goal.loop-job-init
loop-job-init g c =
    let many : length c.run_all.new.jobs.items ≡ length c.in_ok-jobs.jobs.items = grind (arith, common_steps) in
    delivering_none c.args.header.now c.args.loads.items c.in_ok-jobs.jobs.items c.run_all.new.jobs.items c.into_iter-job-iterator.result.rest.items c.args.docks.items
    c.in_ok-jobs.ensures.dealt c.requires.loads c.requires.ready many (λ i d within. c.run_all.ensures.each i d (omega (arith, c.in_ok-jobs.jobs.ok.0))) c.into_iter-job-iterator.ensures.into_iter_gives.0

pub deliver_all-requires-clause-take : goal.deliver_all-requires-clause-take
deliver_all-requires-clause-take g c =
    (deliverable c.args.header.now c.args.loads.items c.loop-job.job-iterator.rest.items c.next.new.self.rest.items c.in-Some.job c.in_ok-made.field-0 c.args.docks.items c.loop-job.docks.items
    c.axes-valid.ensures.valid c.in-Some.ensures.steps.0 c.in_ok-made.was c.loop-job.invariant).take

pub loop-job-preserved : goal.loop-job-preserved
loop-job-preserved g c =
    (deliverable c.args.header.now c.args.loads.items c.loop-job.job-iterator.rest.items c.next.new.self.rest.items c.in-Some.job c.in_ok-made.field-0 c.args.docks.items c.loop-job.docks.items
    c.axes-valid.ensures.valid c.in-Some.ensures.steps.0 c.in_ok-made.was c.loop-job.invariant).next c.deliver_all.new.docks.items c.deliver_all.ensures

pub returns : goal.returns
returns g c =
    let rest = c.loop-job.job-iterator.rest in
    let none : rest.items ≡ [] = nil_from_length rest.items (omega (arith, rest.ok.0, c.in-None.ensures.steps.0)) in
    delivering_all c.args.header.now c.args.loads.items rest.items c.args.docks.items c.loop-job.docks.items none c.loop-job.invariant
