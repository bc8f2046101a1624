use Rattle.std.proofs.Common.{◌≡◌, ◌≤◌, rules, subst}
use Rattle.idx_outside.specs.Objects.{contents_at}
use Rattle.idx_gather.specs.Gather.{IsCaused, LeavesAs, LeavesFailed, SomeStepAddedAs}
use Rattle.idx_gather.specs.declared.gather_fault.GatherFault.{GatherFault}
use Rattle.idx_convert.specs.Convert.{Ends}
use Rattle.idx_convert.specs.Known.{known_of}
use Rattle.idx_convert.specs.Stages.{cause_of_gather}
use Rattle.idx_convert.proofs.NextLemmas.{next_new}
use Rattle.idx_convert.proofs.StageLemmas.{gathered_ends, handed_on, written_ends}
use Rattle.idx_convert.proofs.adding.add_step.Goals as goal

pub gather_first-requires-clause-new : goal.gather_first-requires-clause-new
gather_first-requires-clause-new g c κs within =
    next_new c.args.header.now c.args.step _ _ c.args.place.now.header (search rules) c.requires.next

pub returns-clause-ends : goal.returns-clause-ends
returns-clause-ends g c =
    let bay = g.B.Bay in
    let raw = g.V.Source in
    let known = known_of raw.contents raw.asked raw.faults c.args.raws.now.items c.gather_first.new.raws.items bay.header bay.files bay.begun bay.changes bay.failed bay.faults c.args.bay.now c.gather_first.new.bay in
    written_ends c.args.layout c.args.text.now c.args.step known c.args.header.now c.args.place.now.header
    c.requires.asked c.requires.taken c.requires.size c.requires.revised c.requires.next
    (subst (λ files. SomeStepAddedAs c.args.layout c.args.place.now.header c.args.step (contents_at raw.contents c.args.raws.now.items 0) files (bay.files c.gather_first.new.bay))
    (search rules) c.in_ok-gather_first.ensures.added)
    (search rules) (search rules) (search rules) (search rules) (search rules)

pub returns-in_err-gather_first-clause-ends : goal.returns-in_err-gather_first-clause-ends
returns-in_err-gather_first-clause-ends g c =
    let bay = g.B.Bay in
    let raw = g.V.Source in
    let now = c.args.bay.now in
    let before = c.begin_step.new.self in
    let after = c.gather_first.new.bay in
    let written = c.args.place.now.header in
    let known = known_of raw.contents raw.asked raw.faults c.args.raws.now.items c.gather_first.new.raws.items bay.header bay.files bay.begun bay.changes bay.failed bay.faults now after in
    let fault : GatherFault = c.in_err-gather_first.field-0.0 in
    let same_files : bay.files before ≡ bay.files now = search rules in
    let same_failed : bay.failed before ≡ bay.failed now = search rules in
    let same_faults : bay.faults before ≡ bay.faults now = search rules in
    handed_on c.from_residual.result (cause_of_gather fault) (λ r. Ends c.args.layout c.args.text.now c.args.step known r) c.from_residual.ensures.1
    (gathered_ends c.args.layout c.args.text.now c.args.step known c.args.header.now written c.requires.asked c.requires.taken c.requires.size c.requires.revised c.requires.next
    (search rules) (search rules) c.gather_first.result fault c.in_err-gather_first.was
    (subst (λ n. IsCaused written known.raw known.raw_before known.raw_after n known.bay_after fault) same_faults c.in_err-gather_first.ensures.cause)
    (subst (λ files. LeavesAs c.args.layout written c.args.step known.raw files known.files_after fault) same_files c.in_err-gather_first.ensures.leaves)
    (subst (λ files. LeavesFailed files known.files_after known.failed known.failed_after c.gather_first.result) same_files
    (subst (λ call. LeavesFailed (bay.files before) known.files_after call known.failed_after c.gather_first.result) same_failed c.gather_first.ensures.failed))
    (subst (λ n. n ≤ known.bay_after) same_faults c.in_err-gather_first.ensures.count))
