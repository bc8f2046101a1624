use Rattle.std.proofs.Common.{◌≡◌, All, sym, subst, arith}
use Rattle.std.proofs.lemmas.Grind.{common_steps}
use Rattle.idx_header.specs.Header.{IsUnknown}
use Rattle.idx_header.specs.HeaderOf.{unknown_in}
use Rattle.idx_header.proofs.UnknownLemmas.{all_unknown}
use Rattle.idx_header.proofs.unknowns.read_unknowns.Goals as goal

pub returns-clause-valid : goal.returns-clause-valid
returns-clause-valid c =
    let all : c.loop-section.unknown.items ≡ unknown_in c.args.sections.now = grind (arith, common_steps) in
    subst (All IsUnknown) (sym all) (all_unknown c.args.sections.now c.requires)
