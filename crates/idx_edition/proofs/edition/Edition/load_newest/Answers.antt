use Rattle.std.proofs.Common.{refl, ◌∙◌}
use Rattle.std.proofs.lemmas.Result.{on_ok_weaker}
use Rattle.idx_header.specs.Header.{HasTime}
use Rattle.idx_edition.specs.Loaded.{counts}
use Rattle.idx_edition.proofs.NewestLemmas.{newest-cause, newest-none}
use Rattle.idx_edition.proofs.SoFarLemmas.{same_counts}
use Rattle.idx_edition.proofs.edition.Edition.load_newest.Goals as goal

pub returns-in-Some-clause-none : goal.returns-in-Some-clause-none
returns-in-Some-clause-none g c =
    let has : HasTime c.args.header.now c.args.time = c.has_time.ensures.0 c.if-not-has_time.false in
    newest-none c.load.result c.args.header.now c.in-Some.revised c.args.time (g.B.Bay.files c.args.bay.now) (g.B.Bay.files c.newest_header.new.bay) c.in_ok-revised.field-0 has c.in_ok-revised.ensures.files c.in-Some.is
    c.in_ok-revised.ensures.newest c.load.ensures.none

pub returns-in-Some-clause-cause : goal.returns-in-Some-clause-cause
returns-in-Some-clause-cause g c =
    let bay = g.B.Bay in
    let reader = g.R.Reader in
    let has : HasTime c.args.header.now c.args.time = c.has_time.ensures.0 c.if-not-has_time.false in
    let same = same_counts (bay.faults c.newest_header.new.bay) (bay.faults c.args.bay.now) (bay.faults c.load.new.bay) (bay.failed c.newest_header.new.bay) (bay.failed c.args.bay.now) (bay.failed c.load.new.bay)
    (reader.faults c.args.reader.now) (reader.faults c.args.reader.now) (reader.faults c.load.new.reader) c.in_ok-revised.ensures.quiet c.in_ok-revised.ensures.kept refl in
    newest-cause c.load.result c.args.header.now c.in-Some.revised c.args.time (bay.files c.args.bay.now) (bay.files c.newest_header.new.bay) c.in_ok-revised.field-0
    (counts bay.faults bay.failed reader.faults c.newest_header.new.bay c.load.new.bay c.args.reader.now c.load.new.reader)
    (counts bay.faults bay.failed reader.faults c.args.bay.now c.load.new.bay c.args.reader.now c.load.new.reader)
    has c.in_ok-revised.ensures.files c.in-Some.is c.in_ok-revised.ensures.newest same c.load.ensures.cause

pub returns-in-Some-clause-header : goal.returns-in-Some-clause-header
returns-in-Some-clause-header g c = c.load.ensures.header ∙ c.in_ok-revised.ensures.header

pub returns-in-Some-clause-files : goal.returns-in-Some-clause-files
returns-in-Some-clause-files g c = c.load.ensures.files ∙ c.in_ok-revised.ensures.files

pub returns-in-Some-clause-begun : goal.returns-in-Some-clause-begun
returns-in-Some-clause-begun g c = c.load.ensures.begun ∙ c.in_ok-revised.ensures.begun

pub returns-in-Some-clause-changes : goal.returns-in-Some-clause-changes
returns-in-Some-clause-changes g c = c.load.ensures.changes ∙ c.in_ok-revised.ensures.changes

pub returns-in-Some-clause-reader_quiet : goal.returns-in-Some-clause-reader_quiet
returns-in-Some-clause-reader_quiet g c = c.load.ensures.reader_quiet

pub returns-in-Some-clause-reads : goal.returns-in-Some-clause-reads
returns-in-Some-clause-reads g c = c.load.ensures.reads

pub returns-in-Some-clause-time : goal.returns-in-Some-clause-time
returns-in-Some-clause-time g c = c.load.ensures.time

pub returns-in-Some-clause-no_read : goal.returns-in-Some-clause-no_read
returns-in-Some-clause-no_read g c = c.load.ensures.no_read

pub returns-in-Some-clause-admits : goal.returns-in-Some-clause-admits
returns-in-Some-clause-admits g c = λ path admitted.
    c.load.ensures.admits path (c.in_ok-revised.ensures.admits path admitted)

pub returns-in-Some-clause-quiet : goal.returns-in-Some-clause-quiet
returns-in-Some-clause-quiet g c = on_ok_weaker c.load.result (λ same. same ∙ c.in_ok-revised.ensures.quiet) c.load.ensures.quiet

pub returns-in-Some-clause-failed : goal.returns-in-Some-clause-failed
returns-in-Some-clause-failed g c = on_ok_weaker c.load.result (λ same. same ∙ c.in_ok-revised.ensures.kept) c.load.ensures.failed

pub returns-in-Some-clause-lacks : goal.returns-in-Some-clause-lacks
returns-in-Some-clause-lacks g c = λ lacks.
    absurd (lacks (c.has_time.ensures.0 c.if-not-has_time.false))

pub returns-in-None-clause-lacks : goal.returns-in-None-clause-lacks
returns-in-None-clause-lacks g c = λ lacks.
    absurd (lacks (c.has_time.ensures.0 c.if-not-has_time.false))
