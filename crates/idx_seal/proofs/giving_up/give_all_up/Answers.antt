use Rattle.std.proofs.Common.{◌≡◌, ◌+◌, ◌-◌, [], ap, subst, ◌∙◌, arith}
use Rattle.std.specs.List.{sum_by}
use Rattle.std.specs.Vec.Iter.{into_iter_items}
use Rattle.std.proofs.lemmas.Grind.{common_steps}
use Rattle.std.proofs.lemmas.List.Sums.{sum_by-cons}
use Rattle.idx_seal.specs.Bay.{GivesUp}
use Rattle.idx_seal.specs.Jobs.{faults_of}
use Rattle.idx_seal.proofs.BayLemmas.{gives_next, keeps_then}
use Rattle.idx_seal.proofs.giving_up.give_all_up.Goals as goal

pub jobs-preserved : goal.jobs-preserved
jobs-preserved g c =
    let bay = g.B.Bay in
    let faults = faults_of g.B.Draft.Draft.faults in
    let before = c.jobs.invariant in
    let sum : sum_by faults (into_iter_items c.jobs.left) ≡ faults c.in-Some.job + sum_by faults (into_iter_items c.next.new.self) =
    ap (sum_by faults) c.in-Some.ensures.cases.0 ∙ sum_by-cons faults c.in-Some.job (into_iter_items c.next.new.self) in
    record {
      within = omega (arith, sum, before.within);
      counted = gives_next (sum_by faults c.args.jobs.items) (sum_by faults (into_iter_items c.jobs.left)) (faults c.in-Some.job) (sum_by faults (into_iter_items c.next.new.self))
          (bay.faults c.args.bay.now) (bay.faults c.jobs.bay) (bay.faults c.give_up.new.bay) (bay.failed c.args.bay.now) (bay.failed c.jobs.bay) (bay.failed c.give_up.new.bay)
          sum before.within before.counted c.give_up.ensures.counted before.kept.count c.give_up.ensures.kept.count;
      few = grind (arith, common_steps);
      kept = keeps_then bay.header bay.files bay.begun bay.admits bay.faults c.args.bay.now c.jobs.bay c.give_up.new.bay before.kept c.give_up.ensures.kept;
    }

pub returns-clause-counted : goal.returns-clause-counted
returns-clause-counted g c =
    let none : into_iter_items c.jobs.left ≡ [] = grind (arith, common_steps) in
    let bay = g.B.Bay in
    let faults = faults_of g.B.Draft.Draft.faults in
    let sum : sum_by faults c.args.jobs.items - sum_by faults (into_iter_items c.jobs.left) ≡ sum_by faults c.args.jobs.items =
    omega (arith, ap (sum_by faults) none) in
    subst (λ n. GivesUp n (bay.faults c.args.bay.now) (bay.faults c.jobs.bay) (bay.failed c.args.bay.now) (bay.failed c.jobs.bay)) sum c.jobs.invariant.counted
