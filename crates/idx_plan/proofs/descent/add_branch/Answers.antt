use Rattle.std.proofs.Common.{None, subst}
use Rattle.idx_plan.specs.Branches.{level_of}
use Rattle.idx_plan.specs.Parts.{IsPartOf}
use Rattle.idx_plan.proofs.DescentLemmas.{none_added}
use Rattle.idx_plan.proofs.descent.add_branch.Goals as goal

pub returns-in_default : goal.returns-in_default
returns-in_default c =
    let b = c.args.branch in
    let mask = c.args.mask.now in
    let ask = c.args.ask.now in
    let none : IsPartOf mask ask.region (level_of b) b.digits b.number None = subst (IsPartOf mask ask.region (level_of b) b.digits b.number) c.in_default.is c.requires.part in
    none_added mask ask b c.args.keys.now.items c.requires.address c.requires.branch none

pub descend-requires-clause-part : goal.descend-requires-clause-part
descend-requires-clause-part c =
    let b = c.args.branch in
    subst (IsPartOf c.args.mask.now c.args.ask.now.region (level_of b) b.digits b.number) c.in-Some.is c.requires.part
