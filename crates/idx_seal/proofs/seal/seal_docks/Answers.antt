use Rattle.std.proofs.Common.{rules, ◌≡◌, [], ◌++◌, All, Err, None, map, refl, sym, subst, ◌∙◌, arith, append-nil}
use Rattle.std.proofs.lemmas.Grind.{common_steps}
use Rattle.std.specs.List.{AllByRecursion}
use Rattle.std.specs.Vec.Iter.{into_iter_items}
use Rattle.idx_outside.specs.Files.{known_files, shown}
use Rattle.idx_outside.specs.declared.bay_fault.BayFault.TheVariants.{NoMemory, Outage}
use Rattle.idx_header.specs.Names.{file_name}
use Rattle.idx_dock.specs.Dock.{missing}
use Rattle.idx_seal.specs.Bay.{Answers}
use Rattle.idx_seal.specs.Files.{dock_file}
use Rattle.idx_seal.specs.Jobs.{IsFinished}
use Rattle.idx_seal.specs.Rows.{MeetsOnceOrRow}
use Rattle.idx_seal.proofs.BayLemmas.{call_stays, handed_on, keeps_none, keeps_then, row_of_once}
use Rattle.idx_seal.proofs.RowLemmas.{all_in_turn}
use Rattle.idx_seal.proofs.seal.seal_docks.Goals as goal
use Rattle.idx_seal.proofs.seal.seal_docks.Goals.{After-from_residual-in_err-seal_row}

-- what a row that was refused says of the bay since the start
told : (g : _) (c : goal.After-from_residual-in_err-seal_row g) → Answers c.from_residual-in_err-seal_row.result (g.B.Bay.faults c.args.bay.now) (g.B.Bay.faults c.seal_row.new.bay)
    (g.B.Bay.failed c.args.bay.now) (g.B.Bay.failed c.seal_row.new.bay)
told g c =
    handed_on c.from_residual-in_err-seal_row.result c.in_err-seal_row.field-0.0 _ _ _ _ _ _ c.from_residual-in_err-seal_row.ensures.1 c.in_err-seal_row.ensures.answers
    c.rows.invariant.quiet c.rows.invariant.failed

told_at : (g : _) (c : goal.After-from_residual-in_err-seal_row g) (fault : _) → c.from_residual-in_err-seal_row.result ≡ Err fault →
    Answers {T = Unit {0}} (Err fault) (g.B.Bay.faults c.args.bay.now) (g.B.Bay.faults c.seal_row.new.bay) (g.B.Bay.failed c.args.bay.now) (g.B.Bay.failed c.seal_row.new.bay)
told_at g c fault is =
    subst (λ r. Answers r (g.B.Bay.faults c.args.bay.now) (g.B.Bay.faults c.seal_row.new.bay) (g.B.Bay.failed c.args.bay.now) (g.B.Bay.failed c.seal_row.new.bay)) is (told g c)

pub returns-in_err-seal_row-clause-failed : goal.returns-in_err-seal_row-clause-failed
returns-in_err-seal_row-clause-failed g c is = (told_at g (goal.at.returns-in_err-seal_row-clause-failed g c).After-from_residual-in_err-seal_row Outage is).1

pub returns-in_err-seal_row-clause-unfailed : goal.returns-in_err-seal_row-clause-unfailed
returns-in_err-seal_row-clause-unfailed g c other =
    call_stays c.from_residual-in_err-seal_row.result _ _ _ _ (told g (goal.at.returns-in_err-seal_row-clause-unfailed g c).After-from_residual-in_err-seal_row) other

pub returns-in_err-seal_row-clause-no_memory : goal.returns-in_err-seal_row-clause-no_memory
returns-in_err-seal_row-clause-no_memory g c is = (told_at g (goal.at.returns-in_err-seal_row-clause-no_memory g c).After-from_residual-in_err-seal_row NoMemory is).0

pub returns-in_err-seal_row-clause-outage : goal.returns-in_err-seal_row-clause-outage
returns-in_err-seal_row-clause-outage g c is = (told_at g (goal.at.returns-in_err-seal_row-clause-outage g c).After-from_residual-in_err-seal_row Outage is).0

pub returns-in_err-seal_row-clause-once : goal.returns-in_err-seal_row-clause-once
returns-in_err-seal_row-clause-once g c =
    let bay = g.B.Bay in
    subst (λ before. MeetsOnceOrRow (bay.failed c.seal_row.new.bay) c.args.workers before (bay.faults c.seal_row.new.bay)) c.rows.invariant.quiet c.seal_row.ensures.once

pub rows-preserved : goal.rows-preserved
rows-preserved g c =
    let bay = g.B.Bay in
    let contents = g.B.Leaf.Leaf.contents in
    let f = dock_file c.args.layout c.args.header.now c.args.step in
    let before = c.rows.invariant in
    let sealed = c.in_ok-seal_row.ensures in
    record {
      all = ◌∙◌ {c = known_files (bay.files c.args.bay.now) (map f c.args.docks.items)}
          (subst (λ known. shown contents c.seal_row.new.leaves.items ++ known_files known (map f (into_iter_items c.seal_row.new.docks))
          ≡ shown contents c.rows.leaves.items ++ known_files known (map f (into_iter_items c.rows.docks))) before.kept.files_same sealed.leaves)
          before.all;
      finished = subst (λ known. All (IsFinished g.B.Leaf.Leaf.path g.B.Leaf.Leaf.faults known) c.rows.leaves.items →
          All (IsFinished g.B.Leaf.Leaf.path g.B.Leaf.Leaf.faults known) c.seal_row.new.leaves.items) before.kept.files_same sealed.finished before.finished;
      complete = sealed.complete;
      room = sealed.room;
      admits = λ file. sealed.kept.still (file_name c.args.header.now c.args.step file) (before.admits file);
      kept = keeps_then bay.header bay.files bay.begun bay.admits bay.faults c.args.bay.now c.rows.bay c.seal_row.new.bay before.kept sealed.kept;
      quiet = sealed.answers.0 ∙ before.quiet;
      failed = sealed.answers.1 ∙ before.failed;
    }

pub rows-init : goal.rows-init
rows-init g c =
    let bay = g.B.Bay in
    let items : into_iter_items c.into_iter-docks.result ≡ c.args.docks.items = search rules in
    record {
      all = search rules;
      finished = search rules;
      complete = subst (AllByRecursion (λ d. missing d ≡ None)) (sym items) (all_in_turn (λ d. missing d ≡ None) c.args.docks.items c.requires.complete);
      room = grind (arith, common_steps);
      admits = c.requires.admits;
      kept = keeps_none bay.header bay.files bay.begun bay.admits bay.faults c.args.bay.now;
      quiet = refl;
      failed = refl;
    }

pub rows-smaller : goal.rows-smaller
rows-smaller g c = c.in_ok-seal_row.ensures.fewer

pub returns-clause-leaves : goal.returns-clause-leaves
returns-clause-leaves g c =
    let known = g.B.Bay.files c.args.bay.now in
    let f = dock_file c.args.layout c.args.header.now c.args.step in
    let leaves = shown g.B.Leaf.Leaf.contents c.rows.leaves.items in
    let none : into_iter_items c.rows.docks ≡ [] = grind (arith, common_steps) in
    sym (append-nil leaves) ∙ subst (λ docks. leaves ++ known_files known (map f docks) ≡ known_files known (map f c.args.docks.items)) none c.rows.invariant.all

pub returns-in_err-leaves-clause-once : goal.returns-in_err-leaves-clause-once
returns-in_err-leaves-clause-once g c = row_of_once _ _ _ _ c.requires.some (omega arith)

pub returns-clause-once : goal.returns-clause-once
returns-clause-once g c = row_of_once _ _ _ _ c.requires.some (omega (arith, c.rows.invariant.quiet))
