use Rattle.std.proofs.Common.{rules, ◌≡◌, refl, ap, subst, Ok, Err, arith}
use Rattle.std.proofs.lemmas.Grind.{common_steps}
use Rattle.idx_seal.specs.Rows.{MeetsOnceOrRow}
use Rattle.idx_words.specs.ConvertValue.{ConvertValue}
use Rattle.idx_commands.proofs.ConvertLemmas.{convert_ends}
use Rattle.idx_commands.proofs.convert.convert_volume.Goals as goal

pub returns-in-Ok-convert : goal.returns-in-Ok-convert
returns-in-Ok-convert g c =
    let layout : c.words.inside.layout ≡ c.args.words.now.layout = ap (λ (w : ConvertValue). w.layout) c.words.view_is in
    let ranks : c.words.inside.ranks ≡ c.args.words.now.ranks = ap (λ (w : ConvertValue). w.ranks) c.words.view_is in
    let met = subst (λ n. MeetsOnceOrRow (g.B.Bay.failed c.convert.new.bay) n (g.B.Bay.faults c.args.bay.now) (g.B.Bay.faults c.convert.new.bay)) ranks c.in-Ok-convert.ensures.bay_once in
    convert_ends _ _ _ c.as_slice.result.now c.words.inside.layout c.words.inside.step (Ok c.in-Ok-convert.field-0) _ layout (search rules) refl (search rules)
    c.in-Ok-convert.ensures.ends
    (record { same = c.in-Ok-convert.ensures.same; idle = grind (arith, common_steps); counts = c.in-Ok-convert.ensures.raw_count; once = c.in-Ok-convert.ensures.raw_once; bay_once = met })

pub returns : goal.returns
returns g c =
    let layout : c.words.inside.layout ≡ c.args.words.now.layout = ap (λ (w : ConvertValue). w.layout) c.words.view_is in
    let ranks : c.words.inside.ranks ≡ c.args.words.now.ranks = ap (λ (w : ConvertValue). w.ranks) c.words.view_is in
    let met = subst (λ n. MeetsOnceOrRow (g.B.Bay.failed c.convert.new.bay) n (g.B.Bay.faults c.args.bay.now) (g.B.Bay.faults c.convert.new.bay)) ranks c.in-Err.ensures.bay_once in
    convert_ends _ _ _ c.as_slice.result.now c.words.inside.layout c.words.inside.step (Err c.in-Err.fault) _ layout (search rules) c.cause_of.ensures (search rules)
    c.in-Err.ensures.ends
    (record { same = c.in-Err.ensures.same; idle = grind (arith, common_steps); counts = c.in-Err.ensures.raw_count; once = c.in-Err.ensures.raw_once; bay_once = met })
