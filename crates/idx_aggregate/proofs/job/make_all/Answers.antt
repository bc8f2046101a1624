use Rattle.std.proofs.Common.{◌≡◌, ◌∷◌, ◌++◌, arith}
use Rattle.std.proofs.lemmas.Grind.{common_steps}
use Rattle.idx_aggregate.proofs.WorkerLemmas.{making_next}
use Rattle.idx_aggregate.proofs.job.make_all.Goals as goal

pub loads-preserved : goal.loads-preserved
loads-preserved c =
    let is : c.loads.loads.items ≡ c.in-Some.load ∷ c.pop_front.new.self.items = grind (arith, common_steps) in
    let pushed : c.append.new.self.items ≡ c.loads.made.items ++ c.in_ok-more.more.items = grind (arith, common_steps) in
    making_next c.args.header.now c.args.loads.now.items c.loads.loads.items c.pop_front.new.self.items c.in-Some.load c.loads.made.items c.in_ok-more.more.items c.append.new.self.items
    is c.in_ok-more.ensures pushed c.loads.invariant
