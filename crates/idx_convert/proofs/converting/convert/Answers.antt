use Rattle.std.proofs.Common.{List, None, ap, map, refl, slice_index_or, subst, ℕ}
use Rattle.idx_outside.specs.Counts.{EachMeetsOnce}
use Rattle.idx_gather.specs.Gather.{NoneFalls}
use Rattle.idx_convert.specs.Convert.{Ends}
use Rattle.idx_convert.specs.Known.{known_of}
use Rattle.idx_convert.proofs.StageLemmas.{asked_ends, handed_on, late_only, stop_ends}
use Rattle.idx_convert.proofs.converting.convert.Goals as goal

pub returns-in_err-header-clause-ends : goal.returns-in_err-header-clause-ends
returns-in_err-header-clause-ends g c =
    let bay = g.B.Bay in
    let raw = g.V.Source in
    let raws = c.args.raws.now.items in
    let known = known_of raw.contents raw.asked raw.faults raws raws bay.header bay.files bay.begun bay.changes bay.failed bay.faults c.args.bay.now c.args.bay.now in
    let ends = asked_ends c.args.layout c.args.text.now c.args.step known c.in_err-header.field-0.0 (c.in_err-header.ensures.cause known) (λ e. c.in_err-header.ensures.only (cc))
    (record { header = refl; files = refl; begun = refl; changes = refl }) refl refl refl refl in
    handed_on c.from_residual.result c.in_err-header.field-0.0 (λ r. Ends c.args.layout c.args.text.now c.args.step known r) c.from_residual.ensures.1 ends

pub returns-clause-admits : goal.returns-clause-admits
returns-clause-admits g c =
    late_only _ _ _ _ (ap (λ bytes. slice_index_or bytes 0 None) c.in_ok-place.ensures.same) c.add_step.ensures.late

pub returns-in_err-place-clause-ends : goal.returns-in_err-place-clause-ends
returns-in_err-place-clause-ends g c =
    let bay = g.B.Bay in
    let raw = g.V.Source in
    let known = known_of raw.contents raw.asked raw.faults c.args.raws.now.items c.find_place.new.raws.items bay.header bay.files bay.begun bay.changes bay.failed bay.faults c.args.bay.now c.find_place.new.bay in
    let looks = c.in_err-place.ensures.looks in
    let ends = stop_ends c.args.layout c.args.text.now c.args.step known c.in_ok-header.header c.in_ok-header.ensures.asked
    (record { header = looks.header_same; files = looks.files_same; begun = looks.begun_same; changes = looks.changes_same })
    c.in_err-place.field-0.0 c.in_err-place.ensures.cause c.in_err-place.ensures.asked
    (λ other. looks.unfailed (λ e. other (cc)))
    (λ more. let e = c.in_err-place.ensures.raw_answered more in cc)
    (λ more. let e = looks.answered more in cc) looks.count in
    handed_on c.from_residual-in_err-place.result c.in_err-place.field-0.0 (λ r. Ends c.args.layout c.args.text.now c.args.step known r) c.from_residual-in_err-place.ensures.1 ends

pub returns-clause-raw_count : goal.returns-clause-raw_count
returns-clause-raw_count g c =
    subst (λ (counts : List ℕ). NoneFalls counts (map g.V.Source.faults c.add_step.new.raws.items)) c.in_ok-place.ensures.raw_quiet c.add_step.ensures.raw_count

pub returns-clause-raw_once : goal.returns-clause-raw_once
returns-clause-raw_once g c =
    subst (λ (counts : List ℕ). EachMeetsOnce counts (map g.V.Source.faults c.add_step.new.raws.items)) c.in_ok-place.ensures.raw_quiet c.add_step.ensures.raw_once
