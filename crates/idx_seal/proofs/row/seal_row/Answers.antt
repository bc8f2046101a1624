use Rattle.std.proofs.Common.{◌≡◌, length, map, sym, ap, subst, ◌∙◌, arith}
use Rattle.std.specs.List.{list_any}
use Rattle.std.specs.Vec.Iter.{into_iter_items}
use Rattle.std.proofs.lemmas.Grind.{common_steps}
use Rattle.idx_outside.specs.Cause.{Rose}
use Rattle.idx_outside.specs.Files.{shown}
use Rattle.idx_seal.specs.Bay.{IsSealCall}
use Rattle.idx_seal.specs.Files.{dock_file}
use Rattle.idx_seal.specs.Jobs.{has_failed, job_shown, planned}
use Rattle.idx_seal.proofs.BayLemmas.{keeps_then, refused_then, row_of_once, row_of_retire}
use Rattle.idx_seal.proofs.RowLemmas.{opened_faultless, row_failed, row_finished, row_leaves, row_sealed}
use Rattle.idx_seal.proofs.row.seal_row.Goals as goal

pub returns-in-Err-clause-answers : goal.returns-in-Err-clause-answers
returns-in-Err-clause-answers g c =
    let bay = g.B.Bay in
    let none = opened_faultless g.B.Draft.Draft.contents g.B.Draft.Draft.path g.B.Draft.Draft.faults g.B.Leaf.Leaf.contents g.B.Leaf.Leaf.path g.B.Leaf.Leaf.faults (bay.files c.args.bay.now) c.open_row.new.jobs.items c.in-Err.ensures.opened in
    refused_then c.in-Err.fault _ _ _ _ _ _ c.in-Err.ensures.answers (c.give_all_up.ensures.counted.same none) (c.give_all_up.ensures.counted.unfailed none)

pub returns-then-any_failed-clause-answers : goal.returns-then-any_failed-clause-answers
returns-then-any_failed-clause-answers g c =
    let bay = g.B.Bay in
    let old = c.open_row.new.jobs.items in
    let new = c.write_all.new.jobs.items in
    let counted = c.give_all_up-then-any_failed.ensures.counted in
    let number : length new ≡ length old = grind (arith, common_steps) in
    let failed = sym (c.any_failed.ensures ∙ ap (list_any has_failed) c.deref.ensures.value) ∙ c.if-any_failed.true in
    let some = row_failed g.B.Draft.Draft.contents g.B.Draft.Draft.path g.B.Draft.Draft.faults g.B.Leaf.Leaf.contents g.B.Leaf.Leaf.path g.B.Leaf.Leaf.faults (bay.files c.args.bay.now) old new number
    (λ i d within. c.write_all.ensures.each i d (grind (arith, common_steps))) c.in_default-open_row.ensures.opened failed in (
      subst (λ n. Rose n (bay.faults c.give_all_up-then-any_failed.new.bay)) c.in_default-open_row.ensures.answers.0 (counted.rose some),
      subst IsSealCall (sym (counted.call some)) tt,
    )

pub take_leaves-requires-clause-sealed : goal.take_leaves-requires-clause-sealed
take_leaves-requires-clause-sealed g c =
    let old = c.open_row.new.jobs.items in
    let new = c.write_all.new.jobs.items in
    let number : length new ≡ length old = grind (arith, common_steps) in
    let kept = sym (c.any_failed.ensures ∙ ap (list_any has_failed) c.deref.ensures.value) ∙ c.if-any_failed.false in
    (row_sealed g.B.Draft.Draft.contents g.B.Draft.Draft.path g.B.Draft.Draft.faults g.B.Leaf.Leaf.contents g.B.Leaf.Leaf.path g.B.Leaf.Leaf.faults (g.B.Bay.files c.args.bay.now) old new number
    (λ i d within. c.write_all.ensures.each i d (grind (arith, common_steps))) c.in_default-open_row.ensures.opened kept).0

pub returns-clause-leaves : goal.returns-clause-leaves
returns-clause-leaves g c =
    let contents = g.B.Leaf.Leaf.contents in
    let known = g.B.Bay.files c.args.bay.now in
    let f = dock_file c.args.layout c.args.header.now c.args.step in
    let old = c.open_row.new.jobs.items in
    let new = c.write_all.new.jobs.items in
    let number : length new ≡ length old = grind (arith, common_steps) in
    let kept = sym (c.any_failed.ensures ∙ ap (list_any has_failed) c.deref.ensures.value) ∙ c.if-any_failed.false in
    let made = row_sealed g.B.Draft.Draft.contents g.B.Draft.Draft.path g.B.Draft.Draft.faults contents g.B.Leaf.Leaf.path g.B.Leaf.Leaf.faults known old new number
    (λ i d within. c.write_all.ensures.each i d (grind (arith, common_steps))) c.in_default-open_row.ensures.opened kept in
    row_leaves known (shown contents c.take_leaves.new.leaves.items) (shown contents c.args.leaves.now.items) (map (job_shown contents) new)
    (map planned old) (map f (into_iter_items c.open_row.new.docks)) (map f (into_iter_items c.args.docks.now))
    c.take_leaves.ensures.leaves made.1 c.in_default-open_row.ensures.planned

pub returns-in-Err-clause-kept : goal.returns-in-Err-clause-kept
returns-in-Err-clause-kept g c =
    let bay = g.B.Bay in
    keeps_then bay.header bay.files bay.begun bay.admits bay.faults c.args.bay.now c.open_row.new.bay c.give_all_up.new.bay
    c.in-Err.ensures.kept c.give_all_up.ensures.kept

pub returns-then-any_failed-clause-kept : goal.returns-then-any_failed-clause-kept
returns-then-any_failed-clause-kept g c =
    let bay = g.B.Bay in
    keeps_then bay.header bay.files bay.begun bay.admits bay.faults c.args.bay.now c.open_row.new.bay c.give_all_up-then-any_failed.new.bay
    c.in_default-open_row.ensures.kept c.give_all_up-then-any_failed.ensures.kept

pub returns-clause-finished : goal.returns-clause-finished
returns-clause-finished g c =
    let old = c.open_row.new.jobs.items in
    let new = c.write_all.new.jobs.items in
    let number : length new ≡ length old = grind (arith, common_steps) in
    c.take_leaves.ensures.finished (g.B.Bay.files c.args.bay.now)
    (row_finished g.B.Draft.Draft.contents g.B.Draft.Draft.path g.B.Draft.Draft.faults g.B.Leaf.Leaf.contents g.B.Leaf.Leaf.path g.B.Leaf.Leaf.faults (g.B.Bay.files c.args.bay.now) old new number
    (λ i d within. c.write_all.ensures.each i d (grind (arith, common_steps))) c.in_default-open_row.ensures.opened)

pub returns-in_default-clause-once : goal.returns-in_default-clause-once
returns-in_default-clause-once g c = row_of_once _ _ _ _ c.requires.workers (omega arith)

pub returns-in-Err-clause-once : goal.returns-in-Err-clause-once
returns-in-Err-clause-once g c =
    let bay = g.B.Bay in
    let none = opened_faultless g.B.Draft.Draft.contents g.B.Draft.Draft.path g.B.Draft.Draft.faults g.B.Leaf.Leaf.contents g.B.Leaf.Leaf.path g.B.Leaf.Leaf.faults (bay.files c.args.bay.now) c.open_row.new.jobs.items c.in-Err.ensures.opened in
    row_of_once _ _ _ _ c.requires.workers (omega (arith, c.in-Err.ensures.once, c.give_all_up.ensures.counted.same none))

pub returns-then-any_failed-clause-once : goal.returns-then-any_failed-clause-once
returns-then-any_failed-clause-once g c =
    let bay = g.B.Bay in
    let old = c.open_row.new.jobs.items in
    let new = c.write_all.new.jobs.items in
    let number : length new ≡ length old = grind (arith, common_steps) in
    let failed = sym (c.any_failed.ensures ∙ ap (list_any has_failed) c.deref.ensures.value) ∙ c.if-any_failed.true in
    let some = row_failed g.B.Draft.Draft.contents g.B.Draft.Draft.path g.B.Draft.Draft.faults g.B.Leaf.Leaf.contents g.B.Leaf.Leaf.path g.B.Leaf.Leaf.faults (bay.files c.args.bay.now) old new number
    (λ i d within. c.write_all.ensures.each i d (grind (arith, common_steps))) c.in_default-open_row.ensures.opened failed in
    row_of_retire _ _ _ _ (c.give_all_up-then-any_failed.ensures.counted.call some)
    (grind (arith, common_steps, c.give_all_up-then-any_failed.ensures.few, c.write_all.ensures.number, c.in_default-open_row.ensures.number, c.in_default-open_row.ensures.answers))

pub returns-clause-once : goal.returns-clause-once
returns-clause-once g c = row_of_once _ _ _ _ c.requires.workers (omega (arith, c.in_default-open_row.ensures.answers.0))
