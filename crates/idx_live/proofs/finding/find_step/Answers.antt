use Rattle.std.proofs.Common.{rules}
use Rattle.idx_convert.specs.Known.{known_of}
use Rattle.idx_convert.proofs.NextLemmas.{next_some}
use Rattle.idx_live.proofs.finding.find_step.Goals as goal

pub returns-in_err-header-clause-cause : goal.returns-in_err-header-clause-cause
returns-in_err-header-clause-cause g c n =
    let bay = g.B.Bay in
    let raw = g.V.Source in
    let raws = c.args.raws.now.items in
    let known = known_of raw.contents raw.asked raw.faults raws raws bay.header bay.files bay.begun bay.changes bay.failed bay.faults c.args.bay.now c.read_header.new.bay in
    let stop = c.in_err-header.ensures.cause known n in
    search rules

pub returns-in_err-revision-clause-cause : goal.returns-in_err-revision-clause-cause
returns-in_err-revision-clause-cause g c n =
    let bay = g.B.Bay in
    let raw = g.V.Source in
    let raws = c.args.raws.now.items in
    let known = known_of raw.contents raw.asked raw.faults raws raws bay.header bay.files bay.begun bay.changes bay.failed bay.faults c.args.bay.now c.next_revision.new.bay in
    let stop = c.in_err-revision.ensures.cause known n in
    search rules

pub returns-in_err-check_size-clause-cause : goal.returns-in_err-check_size-clause-cause
returns-in_err-check_size-clause-cause g c n =
    let bay = g.B.Bay in
    let raw = g.V.Source in
    let raws = c.args.raws.now.items in
    let known = known_of raw.contents raw.asked raw.faults raws c.check_size.new.raws.items bay.header bay.files bay.begun bay.changes bay.failed bay.faults c.args.bay.now c.next_revision.new.bay in
    let stop = c.in_err-check_size.ensures.cause c.args.time known n c.in_ok-header.ensures.gives c.in_ok-header.ensures.may_write
    (next_some c.in_ok-header.header c.args.time _ _ _ c.in_ok-header.ensures.looks.files_same c.in_ok-revision.ensures.next) in
    search rules
