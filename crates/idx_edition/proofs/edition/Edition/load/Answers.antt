use Rattle.std.proofs.Common.{refl, ◌∙◌}
use Rattle.idx_header.specs.Header.{HasTime}
use Rattle.idx_edition.specs.Loaded.{counts}
use Rattle.idx_edition.specs.declared.load_fault.LoadFault.{LoadFault}
use Rattle.idx_edition.proofs.ReadsLemmas.{err_is}
use Rattle.idx_edition.proofs.SoFarLemmas.{cause_standing, same_counts}
use Rattle.idx_edition.proofs.edition.Edition.load.Goals as goal

pub returns-clause-admits : goal.returns-clause-admits
returns-clause-admits g c = λ path admitted.
    c.open_files.ensures.admits path (c.folder_stands.ensures.admits path admitted)

pub returns-in_err-open_files-clause-cause : goal.returns-in_err-open_files-clause-cause
returns-in_err-open_files-clause-cause g c =
    let h = c.args.header.now in
    let bay = g.B.Bay in
    let reader = g.R.Reader in
    let has : HasTime h c.args.time = c.has_time.ensures.0 c.if-not-has_time.false in
    let fault : LoadFault = c.in_err-open_files.field-0.0 in
    let same = same_counts (bay.faults c.folder_stands.new.bay) (bay.faults c.args.bay.now) (bay.faults c.open_files.new.bay) (bay.failed c.folder_stands.new.bay) (bay.failed c.args.bay.now) (bay.failed c.open_files.new.bay)
    (reader.faults c.args.reader.now) (reader.faults c.args.reader.now) (reader.faults c.open_files.new.reader) c.in_ok-folder_stands.ensures.quiet c.in_ok-folder_stands.ensures.kept refl in
    err_is c.from_residual-in_err-open_files.result fault _ c.from_residual-in_err-open_files.ensures.1
    (cause_standing h c.args.time (bay.files c.args.bay.now) (bay.files c.folder_stands.new.bay) c.in_ok-folder_stands.field-0
    (counts bay.faults bay.failed reader.faults c.folder_stands.new.bay c.open_files.new.bay c.args.reader.now c.open_files.new.reader)
    (counts bay.faults bay.failed reader.faults c.args.bay.now c.open_files.new.bay c.args.reader.now c.open_files.new.reader)
    c.folder_stands.ensures.files same has c.if-not-branch.false c.in_ok-folder_stands.ensures.stands fault c.in_err-open_files.ensures.cause)

pub returns-clause-header : goal.returns-clause-header
returns-clause-header g c = c.open_files.ensures.header ∙ c.folder_stands.ensures.header

pub returns-clause-files : goal.returns-clause-files
returns-clause-files g c = c.open_files.ensures.files ∙ c.folder_stands.ensures.files

pub returns-clause-begun : goal.returns-clause-begun
returns-clause-begun g c = c.open_files.ensures.begun ∙ c.folder_stands.ensures.begun

pub returns-clause-changes : goal.returns-clause-changes
returns-clause-changes g c = c.open_files.ensures.changes ∙ c.folder_stands.ensures.changes

pub returns-clause-quiet : goal.returns-clause-quiet
returns-clause-quiet g c = c.in_ok-open_files.ensures.quiet ∙ c.in_ok-folder_stands.ensures.quiet

pub returns-clause-failed : goal.returns-clause-failed
returns-clause-failed g c = c.in_ok-open_files.ensures.failed ∙ c.in_ok-folder_stands.ensures.kept

pub returns-clause-reader_quiet : goal.returns-clause-reader_quiet
returns-clause-reader_quiet g c = c.in_ok-open_files.ensures.reader_quiet

pub returns-clause-reads : goal.returns-clause-reads
returns-clause-reads g c = c.in_ok-open_files.ensures.reads

pub returns-clause-lacks : goal.returns-clause-lacks
returns-clause-lacks g c = λ lacks.
    absurd (lacks (c.has_time.ensures.0 c.if-not-has_time.false))

pub returns-then-not-branch-clause-lacks : goal.returns-then-not-branch-clause-lacks
returns-then-not-branch-clause-lacks g c = λ lacks.
    absurd (lacks (c.has_time.ensures.0 c.if-not-has_time.false))
