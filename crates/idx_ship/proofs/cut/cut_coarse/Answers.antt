use Rattle.std.proofs.Common.{ℕ, List, sym, subst}
use Rattle.std.specs.Prelude.{OnOk}
use Rattle.idx_ship.specs.Spans.{AreAdded}
use Rattle.idx_ship.proofs.PrefixLemmas.{part_one}
use Rattle.idx_ship.proofs.cut.cut_coarse.Goals as goal

pub cut-requires-clause-exists : goal.cut-requires-clause-exists
cut-requires-clause-exists c =
    (part_one c.args.mask.now c.args.region.now c.args.prefix.now c.args.bits c.args.number c.requires.prefix c.requires.bits c.requires.exists c.in-Some.address c.in-Some.ensures).exists

pub returns-in-Some : goal.returns-in-Some
returns-in-Some c =
    let part = part_one c.args.mask.now c.args.region.now c.args.prefix.now c.args.bits c.args.number c.requires.prefix c.requires.bits c.requires.exists c.in-Some.address c.in-Some.ensures in
    subst (λ (more : List ℕ). OnOk c.cut.result (AreAdded c.args.mask.now more c.args.spans.now.items c.cut.new.spans.items)) (sym part.same) c.cut.ensures
