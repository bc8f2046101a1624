use Rattle.std.proofs.Common.{◌+◌, ◌-◌, ◌≤◌, vec_len}
use Rattle.std.specs.List.{sum_by}
use Rattle.std.specs.Vec.Iter.{into_iter_items, into_iter_len}
use Rattle.idx_seal.specs.Bay.{GivesUp, Keeps}
use Rattle.idx_seal.specs.Jobs.{faults_of}
use Rattle.idx_seal.proofs.giving_up.give_all_up.Given as goal

-- what was given up so far is all but what is left
abbrev pub invariant-jobs : goal.invariant-jobs
invariant-jobs g l =
    let bay = g.B.Bay in
    let faults = faults_of g.B.Draft.Draft.faults in
    record {
      within : sum_by faults (into_iter_items l.left) ≤ sum_by faults l.fn.jobs.items;
      counted : GivesUp (sum_by faults l.fn.jobs.items - sum_by faults (into_iter_items l.left)) (bay.faults l.fn.bay) (bay.faults l.bay) (bay.failed l.fn.bay) (bay.failed l.bay);
      few : bay.faults l.bay + into_iter_len l.left ≤ bay.faults l.fn.bay + vec_len l.fn.jobs;
      kept : Keeps bay.header bay.files bay.begun bay.admits bay.faults l.fn.bay l.bay;
    }

abbrev pub decreases-jobs : goal.decreases-jobs
decreases-jobs g l = into_iter_len l.left
