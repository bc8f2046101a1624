use Rattle.std.proofs.Common.{◌≡◌, ◌≤◌, [], Some, ap, sym, ◌∙◌, subst, arith}
use Rattle.idx_outside.specs.Files.{files_of, shown}
use Rattle.idx_header.specs.Header.{HasTime, HeaderValue, at_revision}
use Rattle.idx_layout.specs.Shape.{shape_of}
use Rattle.idx_hall.specs.Posts.{post_of}
use Rattle.idx_board.specs.Standing.{step_post}
use Rattle.idx_edition.specs.Tables.{has_in_tables, stored_in}
use Rattle.idx_events.specs.Setting.{post_of_files}
use Rattle.idx_core_layers.specs.Division.{DivisionValue, layers_of}
use Rattle.idx_core_forms.specs.Step.{AreStepFiles}
use Rattle.idx_core_steps.proofs.SealLemmas.{revision-few}
use Rattle.idx_core_steps.proofs.EditionLemmas.{step-posted, step-timed, step-written}
use Rattle.idx_core_steps.proofs.edition.edition_of_step.Goals as goal

pub overflow_cast-revision : goal.overflow_cast-revision
overflow_cast-revision c =
    let few : c.args.step.now.revision ≤ 255 = revision-few c.args.below.now c.args.step.now.time c.args.step.now.revision c.requires.taken in
    omega (arith, c.revision.ensures)

pub at_revision-requires-clause-few : goal.at_revision-requires-clause-few
at_revision-requires-clause-few c =
    subst (λ n. n ≤ 255) (sym c.revision.ensures) (revision-few c.args.below.now c.args.step.now.time c.args.step.now.revision c.requires.taken)

pub edition_of-requires-clause-timed : goal.edition_of-requires-clause-timed
edition_of-requires-clause-timed c =
    let header : c.in_ok-header.header ≡ at_revision c.args.step.now.revision c.args.below.now.header =
    c.in_ok-header.ensures ∙ ap (λ r. at_revision r c.header.result.now) c.revision.ensures ∙ ap (at_revision c.args.step.now.revision) c.header.ensures.value in
    subst (λ (h : HeaderValue). HasTime h c.time.result) (sym header)
    (subst (HasTime (at_revision c.args.step.now.revision c.args.below.now.header)) (sym c.time.ensures)
    (step-timed c.args.below.now c.args.step.now.time c.args.step.now.revision c.requires.taken))

pub edition_of-requires-clause-written : goal.edition_of-requires-clause-written
edition_of-requires-clause-written c =
    let header : c.in_ok-header.header ≡ at_revision c.args.step.now.revision c.args.below.now.header =
    c.in_ok-header.ensures ∙ ap (λ r. at_revision r c.header.result.now) c.revision.ensures ∙ ap (at_revision c.args.step.now.revision) c.header.ensures.value in
    ∣ subst (λ (h : HeaderValue). AreStepFiles h c.time.result c.in_ok-files.files.items) (sym header)
    (subst (λ t. AreStepFiles (at_revision c.args.step.now.revision c.args.below.now.header) t c.in_ok-files.files.items) (sym c.time.ensures)
    (step-written c.args.below.now c.args.step.now.time c.args.step.now.revision c.args.step.now.raw c.in_ok-files.files.items c.requires.whole (c.in_ok-files.ensures ∙ c.requires.written))) ∣₁

pub returns-clause-post : goal.returns-clause-post
returns-clause-post c =
    let d : DivisionValue = c.args.below.now in
    let header : c.in_ok-header.header ≡ at_revision c.args.step.now.revision d.header =
    c.in_ok-header.ensures ∙ ap (λ r. at_revision r c.header.result.now) c.revision.ensures ∙ ap (at_revision c.args.step.now.revision) c.header.ensures.value in
    let edition = c.in_ok-edition.edition in
    subst (λ (h : HeaderValue). post_of (shape_of h) edition.time (has_in_tables edition.tables) (stored_in edition.tables (shown (λ bytes. Some bytes) edition.leaves.items)) ≡ step_post (files_of [] c.in_ok-files.files.items) c.time.result h)
    header c.in_ok-edition.ensures.post
    ∙ ap (λ t. step_post (files_of [] c.in_ok-files.files.items) t (at_revision c.args.step.now.revision d.header)) c.time.ensures
    ∙ step-posted d c.args.step.now.time c.args.step.now.revision c.in_ok-files.files.items
    ∙ ap (post_of_files (layers_of d) c.args.step.now.time c.args.step.now.revision) c.in_ok-files.ensures
