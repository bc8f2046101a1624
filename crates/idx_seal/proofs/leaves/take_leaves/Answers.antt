use Rattle.std.proofs.Common.{◌≡◌, ◌∷◌, ◌++◌, [], All, sym, subst, arith}
use Rattle.std.specs.List.{AllByRecursion}
use Rattle.std.proofs.lemmas.Grind.{common_steps}
use Rattle.std.proofs.lemmas.List.Elements.{All-push}
use Rattle.idx_seal.specs.Jobs.{Finishes, IsFinished}
use Rattle.idx_seal.proofs.leaves.take_leaves.Goals as goal

pub jobs-preserved : goal.jobs-preserved
jobs-preserved g c =
    let path = g.L.Leaf.path in
    let faults = g.L.Leaf.faults in
    let pushed : c.push.new.self.items ≡ c.jobs.leaves.items ++ c.leaf_of.result ∷ [] = grind (arith, common_steps) in
    record {
      all = grind (arith, common_steps);
      sealed = grind (arith, common_steps);
      finished = λ known jobs leaves.
          let before = c.jobs.invariant.finished known jobs leaves in
          let parts = subst (AllByRecursion (Finishes path faults known)) c.in-Some.ensures.cases.0 before.0 in (
            parts.1,
            subst (All (IsFinished path faults known)) (sym pushed)
                (All-push (IsFinished path faults known) c.jobs.leaves.items c.leaf_of.result before.1 (c.leaf_of.ensures.finished known parts.0)),
          );
      number = grind (arith, common_steps);
      room = grind (arith, common_steps);
      grows = grind (arith, common_steps);
    }

pub returns-clause-finished : goal.returns-clause-finished
returns-clause-finished g c = λ known jobs leaves. (c.jobs.invariant.finished known jobs leaves).1
