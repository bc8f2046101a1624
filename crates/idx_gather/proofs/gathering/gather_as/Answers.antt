use Rattle.std.proofs.Common.{◌≡◌, ℕ, List, Option, length, map, sym, ap, subst, ◌∙◌}
use Rattle.std.specs.Prelude.{IfOk, vec_len}
use Rattle.idx_outside.specs.Files.{shown}
use Rattle.idx_outside.specs.Objects.{contents_at}
use Rattle.idx_header.specs.Header.{HeaderValue}
use Rattle.idx_header.specs.Names.{file_name, step_folder}
use Rattle.idx_pieces.specs.Ranks.{rank_count}
use Rattle.idx_edition.specs.Tables.{has_in_tables}
use Rattle.idx_gather.specs.Gather.{HasPresent, HasVolume, IsCaused}
use Rattle.idx_gather.specs.States.{AreFirstFiles}
use Rattle.idx_gather.proofs.BatchLemmas.{some_rank}
use Rattle.idx_gather.proofs.FillLemmas.{alike_still, first_same}
use Rattle.idx_gather.proofs.GatherLemmas.{added_all, admits_files, blocks_all, has_not_lacks, holds_all, left_all, none_yet, sealed_step, unfailed}
use Rattle.idx_gather.proofs.SealAllLemmas.{idle_again, on_fault}
use Rattle.idx_gather.proofs.gathering.gather_as.Goals as goal

pub returns-in_err-check_length-clause-cause : goal.returns-in_err-check_length-clause-cause
returns-in_err-check_length-clause-cause g c =
    on_fault c.from_residual.result c.in_err-check_length.field-0.0
    (IsCaused c.args.header.now (contents_at g.V.Source.contents c.args.raws.now.items 0) (map g.V.Source.faults c.args.raws.now.items)
    (map g.V.Source.faults c.check_length.new.raws.items) (g.B.Bay.faults c.args.bay.now) (g.B.Bay.faults c.args.bay.now))
    c.from_residual.ensures.1 (c.in_err-check_length.ensures.cause (g.B.Bay.faults c.args.bay.now))

pub returns-in_err-check_length-clause-failed : goal.returns-in_err-check_length-clause-failed
returns-in_err-check_length-clause-failed g c =
    unfailed c.from_residual.result c.in_err-check_length.field-0.0 c.args.header.now (contents_at g.V.Source.contents c.args.raws.now.items 0) (map g.V.Source.faults c.args.raws.now.items)
    (map g.V.Source.faults c.check_length.new.raws.items) (g.B.Bay.files c.args.bay.now) (g.B.Bay.failed c.args.bay.now) c.from_residual.ensures.1 (c.in_err-check_length.ensures.cause 0)

pub returns-in_err-check_length-clause-idle : goal.returns-in_err-check_length-clause-idle
returns-in_err-check_length-clause-idle g c =
    c.check_length.ensures.idle (rank_count c.args.header.now.box (vec_len c.args.raws.now)) (some_rank c.args.header.now (vec_len c.args.raws.now) c.axes-axes.ensures.valid c.requires.some)

pub returns-in_err-opening-clause-idle : goal.returns-in_err-opening-clause-idle
returns-in_err-opening-clause-idle g c =
    c.check_length.ensures.idle (rank_count c.args.header.now.box (vec_len c.args.raws.now)) (some_rank c.args.header.now (vec_len c.args.raws.now) c.axes-axes.ensures.valid c.requires.some)

pub seal_all-requires-clause-alike : goal.seal_all-requires-clause-alike
seal_all-requires-clause-alike g c κs within =
    alike_still g.V.Source.contents c.args.raws.now.items c.check_length.new.raws.items c.check_length.ensures.same c.requires.alike

pub seal_all-requires-clause-admits : goal.seal_all-requires-clause-admits
seal_all-requires-clause-admits g c κs within = λ file.
    let o = c.in_ok-opening in
    let path : file_name c.args.header.now c.args.step file ≡ file_name o.opening.header o.opening.step file = λ i. file_name (sym o.ensures.header i) (sym o.ensures.step i) file in
    subst (λ (p : List ℕ). g.B.Bay.admits c.args.bay.now p) path
    (admits_files (g.B.Bay.admits c.args.bay.now) c.args.header.now c.args.step c.requires.folder.timed c.requires.begun file)

pub seal_all-requires-clause-first : goal.seal_all-requires-clause-first
seal_all-requires-clause-first g c κs within =
    let o = c.in_ok-opening in
    let told : Option (List ℕ) = contents_at g.V.Source.contents c.check_length.new.raws.items 0 in
    let same = first_same g.V.Source.contents c.args.raws.now.items c.check_length.new.raws.items c.check_length.ensures.same in
    let has : HasVolume c.args.header.now told = subst (λ (x : Option (List ℕ)). HasVolume c.args.header.now x) (sym same) c.in_ok-check_length.ensures.right in
    let right : HasVolume o.opening.header told = subst (λ (x : HeaderValue). HasVolume x told) (sym o.ensures.header) has in
    subst (λ leaves. AreFirstFiles o.opening.layout o.opening.header o.opening.step (g.B.Bay.files c.args.bay.now) told o.opening.files.items (shown g.B.Leaf.Leaf.contents leaves)) (sym o.ensures.empty)
    (none_yet o.opening.layout o.opening.header o.opening.step (g.B.Bay.files c.args.bay.now) told o.opening.files.items right)

pub returns-in_err-opening-2-clause-idle : goal.returns-in_err-opening-2-clause-idle
returns-in_err-opening-2-clause-idle g c =
    idle_again c.args.header.now c.in_ok-opening.opening.header (vec_len c.args.raws.now) (vec_len c.check_length.new.raws) c.args.raws.now.items c.check_length.new.raws.items c.seal_all.new.raws.items
    c.in_ok-opening.ensures.header c.check_length.ensures.number c.seal_all.ensures.idle
    (c.check_length.ensures.idle (rank_count c.args.header.now.box (vec_len c.args.raws.now)) (some_rank c.args.header.now (vec_len c.args.raws.now) c.axes-axes.ensures.valid c.requires.some))

pub commit-requires-clause-new : goal.commit-requires-clause-new
commit-requires-clause-new g c = λ folder is files there.
    let o = c.in_ok-opening in
    let d = c.in_ok-opening-2 in
    let header : c.finish.result.header ≡ c.args.header.now = c.finish.ensures.header ∙ d.ensures.same_header ∙ o.ensures.header in
    let step : c.finish.result.step ≡ c.args.step = c.finish.ensures.step ∙ d.ensures.same_step ∙ o.ensures.step in
    let path : step_folder c.args.header.now c.args.step ≡ step_folder c.finish.result.header c.finish.result.step = λ i. step_folder (sym header i) (sym step i) in
    c.requires.new folder (path ∙ is) files (sym c.seal_all.ensures.files ∙ there)

pub returns-clause-added : goal.returns-clause-added
returns-clause-added g c =
    let o = c.in_ok-opening in
    let d = c.in_ok-opening-2 in
    let header : c.finish.result.header ≡ c.args.header.now = c.finish.ensures.header ∙ d.ensures.same_header ∙ o.ensures.header in
    let step : c.finish.result.step ≡ c.args.step = c.finish.ensures.step ∙ d.ensures.same_step ∙ o.ensures.step in
    let layout : c.finish.result.layout ≡ c.args.layout = c.finish.ensures.layout ∙ d.ensures.same_layout ∙ o.ensures.layout in
    let some = sealed_step g.B.Leaf.Leaf.contents c.finish.result.layout o.opening.layout c.args.header.now c.finish.result.header o.opening.header c.finish.result.step o.opening.step (g.B.Bay.files c.seal_all.new.bay) (g.B.Bay.files c.args.bay.now)
    (contents_at g.V.Source.contents c.args.raws.now.items 0) (contents_at g.V.Source.contents c.check_length.new.raws.items 0) o.opening.files.items c.finish.result.leaves.items d.opening.leaves.items
    (c.finish.ensures.layout ∙ d.ensures.same_layout) (c.finish.ensures.header ∙ d.ensures.same_header) o.ensures.header (c.finish.ensures.step ∙ d.ensures.same_step) c.seal_all.ensures.files
    (first_same g.V.Source.contents c.args.raws.now.items c.check_length.new.raws.items c.check_length.ensures.same) c.finish.ensures.leaves
    o.opening.valid.files_are (d.ensures.sealed ∙ ap (λ fs. length fs.items) d.ensures.same_files) c.in_ok-check_length.ensures.right d.ensures.files_made in
    added_all c.args.layout c.finish.result.layout c.args.header.now c.finish.result.header c.args.step c.finish.result.step (g.B.Bay.files c.args.bay.now) (g.B.Bay.files c.seal_all.new.bay) (g.B.Bay.files c.commit.new.bay)
    (contents_at g.V.Source.contents c.args.raws.now.items 0) (shown g.B.Leaf.Leaf.contents c.finish.result.leaves.items) layout header step c.seal_all.ensures.files some c.commit.result c.commit.ensures.added

pub returns-clause-has : goal.returns-clause-has
returns-clause-has g c =
    let header : c.finish.result.header ≡ c.args.header.now = c.finish.ensures.header ∙ c.in_ok-opening-2.ensures.same_header ∙ c.in_ok-opening.ensures.header in
    subst (λ (h : HeaderValue). IfOk c.commit.result (λ edition. HasPresent h (has_in_tables edition.tables))) header c.commit.ensures.has

pub returns-clause-volume : goal.returns-clause-volume
returns-clause-volume g c =
    let o = c.in_ok-opening in
    let d = c.in_ok-opening-2 in
    let header : c.finish.result.header ≡ c.args.header.now = c.finish.ensures.header ∙ d.ensures.same_header ∙ o.ensures.header in
    let step : c.finish.result.step ≡ c.args.step = c.finish.ensures.step ∙ d.ensures.same_step ∙ o.ensures.step in
    let layout : c.finish.result.layout ≡ c.args.layout = c.finish.ensures.layout ∙ d.ensures.same_layout ∙ o.ensures.layout in
    let some = sealed_step g.B.Leaf.Leaf.contents c.finish.result.layout o.opening.layout c.args.header.now c.finish.result.header o.opening.header c.finish.result.step o.opening.step (g.B.Bay.files c.seal_all.new.bay) (g.B.Bay.files c.args.bay.now)
    (contents_at g.V.Source.contents c.args.raws.now.items 0) (contents_at g.V.Source.contents c.check_length.new.raws.items 0) o.opening.files.items c.finish.result.leaves.items d.opening.leaves.items
    (c.finish.ensures.layout ∙ d.ensures.same_layout) (c.finish.ensures.header ∙ d.ensures.same_header) o.ensures.header (c.finish.ensures.step ∙ d.ensures.same_step) c.seal_all.ensures.files
    (first_same g.V.Source.contents c.args.raws.now.items c.check_length.new.raws.items c.check_length.ensures.same) c.finish.ensures.leaves
    o.opening.valid.files_are (d.ensures.sealed ∙ ap (λ fs. length fs.items) d.ensures.same_files) c.in_ok-check_length.ensures.right d.ensures.files_made in
    blocks_all c.args.layout c.finish.result.layout c.args.header.now c.finish.result.header c.args.step c.finish.result.step (g.B.Bay.files c.args.bay.now) (g.B.Bay.files c.seal_all.new.bay) (g.B.Bay.files c.commit.new.bay)
    (contents_at g.V.Source.contents c.args.raws.now.items 0) (shown g.B.Leaf.Leaf.contents c.finish.result.leaves.items) layout header step c.seal_all.ensures.files some c.commit.result _ c.commit.ensures.blocks

pub returns-clause-holds : goal.returns-clause-holds
returns-clause-holds g c =
    let o = c.in_ok-opening in
    let d = c.in_ok-opening-2 in
    let header : c.finish.result.header ≡ c.args.header.now = c.finish.ensures.header ∙ d.ensures.same_header ∙ o.ensures.header in
    let step : c.finish.result.step ≡ c.args.step = c.finish.ensures.step ∙ d.ensures.same_step ∙ o.ensures.step in
    let layout : c.finish.result.layout ≡ c.args.layout = c.finish.ensures.layout ∙ d.ensures.same_layout ∙ o.ensures.layout in
    let some = sealed_step g.B.Leaf.Leaf.contents c.finish.result.layout o.opening.layout c.args.header.now c.finish.result.header o.opening.header c.finish.result.step o.opening.step (g.B.Bay.files c.seal_all.new.bay) (g.B.Bay.files c.args.bay.now)
    (contents_at g.V.Source.contents c.args.raws.now.items 0) (contents_at g.V.Source.contents c.check_length.new.raws.items 0) o.opening.files.items c.finish.result.leaves.items d.opening.leaves.items
    (c.finish.ensures.layout ∙ d.ensures.same_layout) (c.finish.ensures.header ∙ d.ensures.same_header) o.ensures.header (c.finish.ensures.step ∙ d.ensures.same_step) c.seal_all.ensures.files
    (first_same g.V.Source.contents c.args.raws.now.items c.check_length.new.raws.items c.check_length.ensures.same) c.finish.ensures.leaves
    o.opening.valid.files_are (d.ensures.sealed ∙ ap (λ fs. length fs.items) d.ensures.same_files) c.in_ok-check_length.ensures.right d.ensures.files_made in
    holds_all c.args.layout c.finish.result.layout c.args.header.now c.finish.result.header c.args.step c.finish.result.step (g.B.Bay.files c.args.bay.now) (g.B.Bay.files c.seal_all.new.bay) (g.B.Bay.files c.commit.new.bay)
    (contents_at g.V.Source.contents c.args.raws.now.items 0) (shown g.B.Leaf.Leaf.contents c.finish.result.leaves.items) layout header step c.seal_all.ensures.files some c.commit.result _ _ _ _ c.commit.ensures.holds

pub returns-clause-leaves : goal.returns-clause-leaves
returns-clause-leaves g c =
    let o = c.in_ok-opening in
    let d = c.in_ok-opening-2 in
    let header : c.finish.result.header ≡ c.args.header.now = c.finish.ensures.header ∙ d.ensures.same_header ∙ o.ensures.header in
    let step : c.finish.result.step ≡ c.args.step = c.finish.ensures.step ∙ d.ensures.same_step ∙ o.ensures.step in
    let layout : c.finish.result.layout ≡ c.args.layout = c.finish.ensures.layout ∙ d.ensures.same_layout ∙ o.ensures.layout in
    let some = sealed_step g.B.Leaf.Leaf.contents c.finish.result.layout o.opening.layout c.args.header.now c.finish.result.header o.opening.header c.finish.result.step o.opening.step (g.B.Bay.files c.seal_all.new.bay) (g.B.Bay.files c.args.bay.now)
    (contents_at g.V.Source.contents c.args.raws.now.items 0) (contents_at g.V.Source.contents c.check_length.new.raws.items 0) o.opening.files.items c.finish.result.leaves.items d.opening.leaves.items
    (c.finish.ensures.layout ∙ d.ensures.same_layout) (c.finish.ensures.header ∙ d.ensures.same_header) o.ensures.header (c.finish.ensures.step ∙ d.ensures.same_step) c.seal_all.ensures.files
    (first_same g.V.Source.contents c.args.raws.now.items c.check_length.new.raws.items c.check_length.ensures.same) c.finish.ensures.leaves
    o.opening.valid.files_are (d.ensures.sealed ∙ ap (λ fs. length fs.items) d.ensures.same_files) c.in_ok-check_length.ensures.right d.ensures.files_made in
    left_all c.args.layout c.finish.result.layout c.args.header.now c.finish.result.header c.args.step c.finish.result.step (g.B.Bay.files c.args.bay.now) (g.B.Bay.files c.seal_all.new.bay) (g.B.Bay.files c.commit.new.bay)
    (contents_at g.V.Source.contents c.args.raws.now.items 0) (shown g.B.Leaf.Leaf.contents c.finish.result.leaves.items) layout header step c.seal_all.ensures.files some c.commit.result
    (g.B.Bay.faults c.seal_all.new.bay) (g.B.Bay.faults c.commit.new.bay) c.commit.ensures.cause c.commit.ensures.whole c.commit.ensures.none

pub returns-clause-unasked : goal.returns-clause-unasked
returns-clause-unasked g c = λ lacks.
    absurd (has_not_lacks c.args.header.now (contents_at g.V.Source.contents c.args.raws.now.items 0) c.in_ok-check_length.ensures.right lacks)

pub returns-clause-unchanged : goal.returns-clause-unchanged
returns-clause-unchanged g c = λ lacks.
    absurd (has_not_lacks c.args.header.now (contents_at g.V.Source.contents c.args.raws.now.items 0) c.in_ok-check_length.ensures.right lacks)

pub returns-clause-idle : goal.returns-clause-idle
returns-clause-idle g c =
    idle_again c.args.header.now c.in_ok-opening.opening.header (vec_len c.args.raws.now) (vec_len c.check_length.new.raws) c.args.raws.now.items c.check_length.new.raws.items c.seal_all.new.raws.items
    c.in_ok-opening.ensures.header c.check_length.ensures.number c.seal_all.ensures.idle
    (c.check_length.ensures.idle (rank_count c.args.header.now.box (vec_len c.args.raws.now)) (some_rank c.args.header.now (vec_len c.args.raws.now) c.axes-axes.ensures.valid c.requires.some))
