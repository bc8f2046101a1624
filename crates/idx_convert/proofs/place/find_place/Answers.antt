use Rattle.std.proofs.Common.{rules}
use Rattle.idx_convert.specs.Known.{known_of}
use Rattle.idx_convert.proofs.place.find_place.Goals as goal

pub returns-in_err-place-clause-cause : goal.returns-in_err-place-clause-cause
returns-in_err-place-clause-cause g c =
    let bay = g.B.Bay in
    let raw = g.V.Source in
    let raws = c.args.raws.now.items in
    let known = known_of raw.contents raw.asked raw.faults raws raws bay.header bay.files bay.begun bay.changes bay.failed bay.faults c.args.bay.now c.place_in.new.bay in
    let stop = c.in_err-place.ensures.cause known in
    search rules

pub returns-in_err-check_size-clause-cause : goal.returns-in_err-check_size-clause-cause
returns-in_err-check_size-clause-cause g c =
    let bay = g.B.Bay in
    let raw = g.V.Source in
    let raws = c.args.raws.now.items in
    let known = known_of raw.contents raw.asked raw.faults raws c.check_size.new.raws.items bay.header bay.files bay.begun bay.changes bay.failed bay.faults c.args.bay.now c.place_in.new.bay in
    let stop = c.in_err-check_size.ensures.cause c.args.step known c.in_ok-place.ensures.taken in
    search rules
