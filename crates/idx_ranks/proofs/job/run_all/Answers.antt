use Rattle.std.proofs.Common.{◌≡◌, ◌++◌, ◌<◌, List, length, drop, get_or, take, sym, ap, ◌∙◌, subst, arith}
use Rattle.std.proofs.lemmas.Grind.{common_steps}
use Rattle.idx_ranks.specs.Jobs.{MayRead, Reads}
use Rattle.idx_ranks.specs.declared.job.Job.{Job}
use Rattle.idx_ranks.proofs.job.run_all.Goals as goal

pub for_each_mut-requires-clause-accepts : goal.for_each_mut-requires-clause-accepts
for_each_mut-requires-clause-accepts g c κs within i p inside is =
    let lt : i < length c.args.jobs.now.items = grind (arith, common_steps) in
    let at : p.now ≡ get_or c.args.jobs.now.items i p.now = is ∙ ap (λ (xs : List (Job g.row.V.Denot)). get_or xs i p.now) c.as_mut_slice.ensures.value in (
      grind (arith, common_steps),
      subst (λ (job : Job g.row.V.Denot). MayRead g.V.Source.contents c.args.header.now c.args.pieces.now.items job) (sym at) (c.requires.may i p.now lt),
    )

pub returns-clause-each : goal.returns-clause-each
returns-clause-each g c = λ i d inside.
    let lt : i < length c.as_mut_slice.result.now = grind (arith, common_steps) in
    let at = (c.for_each_mut.ensures i d lt).1 in
    let before : at.argument.now ≡ get_or c.args.jobs.now.items i d = at.argument_is ∙ ap (λ (xs : List (Job g.row.V.Denot)). get_or xs i d) c.as_mut_slice.ensures.value in
    let after : at.after_call.now ≡ get_or (take c.args.jobs.now.len (c.for_each_mut.new.s ++ drop (length c.for_each_mut.new.s) c.args.jobs.now.items)) i d = at.left ∙ grind (arith, common_steps) in
    subst (λ (job : Job g.row.V.Denot). Reads g.V.Source.contents g.V.Source.faults g.V.Source.asked c.args.header.now c.args.pieces.now.items job (get_or (take c.args.jobs.now.len (c.for_each_mut.new.s ++ drop (length c.for_each_mut.new.s) c.args.jobs.now.items)) i d)) before
    (subst (λ (job : Job g.row.V.Denot). Reads g.V.Source.contents g.V.Source.faults g.V.Source.asked c.args.header.now c.args.pieces.now.items at.argument.now job) after at.call)
