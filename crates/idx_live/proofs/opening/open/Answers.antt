use Rattle.std.proofs.Common.{◌≡◌, ◌∙◌, ℕ, List, Option, refl, rules, subst, sym}
use Rattle.std.specs.Prelude.{IfSome, IsSomeAnd}
use Rattle.idx_outside.specs.Files.{known_with}
use Rattle.idx_outside.specs.Objects.{faults_at}
use Rattle.idx_outside.specs.declared.mem_file.MemFile.{MemFile}
use Rattle.idx_header.specs.Header.{at_revision}
use Rattle.idx_header.specs.Names.{step_folder}
use Rattle.idx_header.specs.OfBay.{Gives}
use Rattle.idx_gather.proofs.SealAllLemmas.{on_fault}
use Rattle.idx_board.specs.Standing.{standing_posts}
use Rattle.idx_convert.specs.Known.{known_of}
use Rattle.idx_convert.proofs.NextLemmas.{next_new}
use Rattle.idx_host.specs.Host.{IsLoaded}
use Rattle.idx_live.specs.Live.{IsCause, IsSound}
use Rattle.idx_live.specs.Stages.{seen_by}
use Rattle.idx_live.proofs.StageLemmas.{cause_behind, looks_behind, ready_still}
use Rattle.idx_live.proofs.opening.open.Goals as goal

pub returns-in_err-site-clause-cause : goal.returns-in_err-site-clause-cause
returns-in_err-site-clause-cause g c =
    let bay = g.B.Bay in
    let raw = g.V.Source in
    let before = faults_at g.R.Reader.faults c.args.readers.now.items 0 in
    let known = known_of raw.contents raw.asked raw.faults c.args.raws.now.items c.find_step.new.raws.items bay.header bay.files bay.begun bay.changes bay.failed bay.faults c.args.bay.now c.find_step.new.bay in
    on_fault c.from_residual.result c.in_err-site.field-0.0 (IsCause c.args.time known before before)
    c.from_residual.ensures.1 (c.in_err-site.ensures.cause before)

pub returns-in_err-lock-clause-cause : goal.returns-in_err-lock-clause-cause
returns-in_err-lock-clause-cause g c =
    let bay = g.B.Bay in
    let raw = g.V.Source in
    let h = c.in_ok-site.site.header in
    let found = c.in_ok-site.ensures in
    let was = c.args.bay.now in
    let mid = c.find_step.new.bay in
    let now = c.load_locked.new.bay in
    let known = known_of raw.contents raw.asked raw.faults c.args.raws.now.items c.find_step.new.raws.items bay.header bay.files bay.begun bay.changes bay.failed bay.faults was now in
    let before = faults_at g.R.Reader.faults c.args.readers.now.items 0 in
    let after = faults_at g.R.Reader.faults c.load_locked.new.readers.items 0 in
    on_fault c.from_residual-in_err-lock.result c.in_err-lock.field-0.0 (IsCause c.args.time known before after) c.from_residual-in_err-lock.ensures.1
    (cause_behind bay.header bay.files bay.begun bay.changes bay.failed bay.admits bay.faults c.args.time before after known was mid now c.in_err-lock.field-0.0
    found.looks.header_same found.looks.files_same (found.looks.unfailed (λ e. cc)) (found.looks.quiet (λ e. cc))
    (c.in_err-lock.ensures.cause c.args.time known (subst (λ (text : Option (List ℕ)). Gives text h) (sym found.looks.header_same) found.gives)
    (ready_still h c.args.time (seen_by bay.header bay.files bay.failed bay.faults mid now known) _ (sym found.looks.files_same) refl found.ready)))

pub returns-in_err-lock-clause-looks : goal.returns-in_err-lock-clause-looks
returns-in_err-lock-clause-looks g c =
    let bay = g.B.Bay in
    let looks = looks_behind bay.header bay.files bay.begun bay.changes bay.failed bay.admits bay.faults _ _ c.args.bay.now c.find_step.new.bay c.load_locked.new.bay _ _
    c.in_ok-site.ensures.looks c.in_err-lock.ensures.looks in
    search rules

pub returns-in_err-begin_at-clause-cause : goal.returns-in_err-begin_at-clause-cause
returns-in_err-begin_at-clause-cause g c =
    let bay = g.B.Bay in
    let raw = g.V.Source in
    let h = c.in_ok-site.site.header in
    let found = c.in_ok-site.ensures in
    let loaded = c.in_ok-lock.ensures in
    let was = c.args.bay.now in
    let mid = c.load_locked.new.bay in
    let now = c.begin_at.new.bay in
    let before = faults_at g.R.Reader.faults c.args.readers.now.items 0 in
    let fault = c.in_err-begin_at.field-0.0 in
    let known = known_of raw.contents raw.asked raw.faults c.args.raws.now.items c.find_step.new.raws.items bay.header bay.files bay.begun bay.changes bay.failed bay.faults was now in
    let looks = looks_behind bay.header bay.files bay.begun bay.changes bay.failed bay.admits bay.faults _ _ was c.find_step.new.bay mid _ _ found.looks loaded.looks in
    let cause = cause_behind bay.header bay.files bay.begun bay.changes bay.failed bay.admits bay.faults c.args.time before before known was mid now fault
    looks.header_same looks.files_same (looks.unfailed (λ e. cc)) (looks.quiet (λ e. cc))
    (c.in_err-begin_at.ensures.cause known before (subst (λ (text : Option (List ℕ)). Gives text h) (sym looks.header_same) found.gives)
    (ready_still h c.args.time (seen_by bay.header bay.files bay.failed bay.faults mid now known) _ (sym looks.files_same) refl found.ready)
    (subst (λ (files : Option (List MemFile)). IsSound h files) (sym loaded.looks.files_same) loaded.locked.sound)) in
    on_fault c.from_residual-in_err-begin_at.result fault (IsCause c.args.time known before (faults_at g.R.Reader.faults c.load_locked.new.readers.items 0))
    c.from_residual-in_err-begin_at.ensures.1 (subst (λ (after : ℕ). IsCause c.args.time known before after fault) (sym (loaded.loads.quiet (λ e. cc))) cause)

pub returns-in_err-begin_at-clause-looks : goal.returns-in_err-begin_at-clause-looks
returns-in_err-begin_at-clause-looks g c =
    let bay = g.B.Bay in
    let loads = looks_behind bay.header bay.files bay.begun bay.changes bay.failed bay.admits bay.faults _ _ c.args.bay.now c.find_step.new.bay c.load_locked.new.bay _ _
    c.in_ok-site.ensures.looks c.in_ok-lock.ensures.looks in
    let looks = looks_behind bay.header bay.files bay.begun bay.changes bay.failed bay.admits bay.faults _ _ c.args.bay.now c.load_locked.new.bay c.begin_at.new.bay _ _
    loads c.in_err-begin_at.ensures.looks in
    search rules

pub returns-clause-opened : goal.returns-clause-opened
returns-clause-opened g c =
    let bay = g.B.Bay in
    let h = c.in_ok-site.site.header in
    let found = c.in_ok-site.ensures in
    let loaded = c.in_ok-lock.ensures in
    let locked = loaded.locked in
    let written = at_revision c.in_ok-site.revision h in
    let first = found.looks.files_same in
    record {
      named = found.named;
      gives = found.gives;
      ready = ready_still h c.args.time _ _ refl refl found.ready;
      few = found.few;
      next = found.next;
      begun = subst (λ (files : Option (List MemFile)). IsSomeAnd (step_folder written c.args.time) (λ folder. bay.begun c.begin_at.new.bay ≡ known_with files folder))
          (loaded.looks.files_same ∙ first) c.in_ok-begin_at.ensures.begun;
      sound = subst (λ (files : Option (List MemFile)). IsSound h files) first locked.sound;
      standing = subst (λ (files : Option (List MemFile)). IfSome files (λ files. c.in_ok-lock.writer.seen.posts ≡ standing_posts h files)) first locked.standing;
      shape = locked.shape;
      capacity = locked.capacity;
      of = locked.of;
      writes = locked.writes;
      loaded = subst (λ (files : Option (List MemFile)). IsLoaded g.R.Reader.faults g.R.Reader.reads h files c.args.readers.now.items c.load_locked.new.readers.items) first locked.loaded;
    }

pub returns-clause-new : goal.returns-clause-new
returns-clause-new g c =
    let bay = g.B.Bay in
    let found = c.in_ok-site.ensures in
    record {
      admitted = c.in_ok-begin_at.ensures.admits;
      lacks = next_new c.in_ok-site.site.header c.args.time (bay.files c.args.bay.now) (bay.files c.begin_at.new.bay) (at_revision c.in_ok-site.revision c.in_ok-site.site.header)
          (c.in_ok-begin_at.ensures.files ∙ (c.in_ok-lock.ensures.looks.files_same ∙ found.looks.files_same)) found.next;
    }
