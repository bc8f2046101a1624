use Rattle.std.proofs.Common.{◌≡◌, ◌∷◌, ◌++◌, [], All, None, map, sym, ap, subst, ◌∙◌, arith}
use Rattle.std.specs.List.{AllByRecursion}
use Rattle.std.specs.Vec.Iter.{into_iter_items}
use Rattle.std.proofs.lemmas.Grind.{common_steps}
use Rattle.std.proofs.lemmas.List.Elements.{All-push}
use Rattle.idx_header.specs.Names.{file_name}
use Rattle.idx_dock.specs.Dock.{missing}
use Rattle.idx_seal.specs.Files.{dock_file}
use Rattle.idx_seal.specs.Jobs.{IsOpened, planned}
use Rattle.idx_seal.proofs.BayLemmas.{keeps_then}
use Rattle.idx_seal.proofs.RowLemmas.{planned_more}
use Rattle.idx_seal.proofs.opening.open_row.Goals as goal

pub loop-opened-preserved : goal.loop-opened-preserved
loop-opened-preserved g c =
    let bay = g.B.Bay in
    let contents = g.B.Draft.Draft.contents in
    let path = g.B.Draft.Draft.path in
    let faults = g.B.Draft.Draft.faults in
    let f = dock_file c.args.layout c.args.header.now c.args.step in
    let before = c.loop-opened.invariant in
    let made = c.in_ok-job.ensures in
    let job = c.in_ok-job.job in
    let first = c.in-Some.ensures.cases.0 in
    let pushed : c.push.new.self.items ≡ c.loop-opened.jobs.items ++ job ∷ [] = grind (arith, common_steps) in
    record {
      opened = subst (All (IsOpened contents path faults (bay.files c.args.bay.now))) (sym pushed)
          (All-push (IsOpened contents path faults (bay.files c.args.bay.now)) c.loop-opened.jobs.items job before.opened
          (subst (λ known. IsOpened contents path faults known job) before.kept.files_same made.opened));
      all = ap (λ jobs. map planned jobs ++ map f (into_iter_items c.next.new.self)) pushed
          ∙ planned_more f c.loop-opened.jobs.items job (into_iter_items c.loop-opened.docks) (into_iter_items c.next.new.self) c.in-Some.dock _ first made.planned before.all;
      complete = (subst (AllByRecursion (λ d. missing d ≡ None)) first before.complete).1;
      number = grind (arith, common_steps);
      left = grind (arith, common_steps);
      room = grind (arith, common_steps);
      admits = λ file. made.kept.still (file_name c.args.header.now c.args.step file) (before.admits file);
      kept = keeps_then bay.header bay.files bay.begun bay.admits bay.faults c.args.bay.now c.loop-opened.bay c.open_file.new.bay before.kept made.kept;
      quiet = made.answers.0 ∙ before.quiet;
      failed = made.answers.1 ∙ before.failed;
    }
