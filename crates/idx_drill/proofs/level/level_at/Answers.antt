use Rattle.std.proofs.Common.{◌≡◌, ◌≤◌, List, Option, Some, None, length, slice_get, ap, subst, sym, ◌∙◌, ℕ}
use Rattle.std.specs.Option.{option_copied, option_map_or}
use Rattle.idx_events.specs.World.{Query}
use Rattle.idx_drill.specs.Drilled.{drill_answer, level_of}
use Rattle.idx_drill.proofs.FewLemmas.{few_bytes}
use Rattle.idx_drill.proofs.WorldLemmas.{answer_is, answered_at}
use Rattle.idx_drill.proofs.level.level_at.Goals as goal

pub level_of-requires : goal.level_of-requires
level_of-requires c =
    let queries = c.args.world.now.world.queries in
    let told = c.answer_of.ensures ∙ ap (λ (at : ℕ). option_map_or (λ (x : Query). x.answer) (slice_get queries at) None) c.from.ensures in
    let same = answer_is c.args.number c.args.level _ c.in-Some.samples.now queries c.requires.answers c.requires.level told (ap option_copied c.in-Some.is) in
    record { few = subst (λ (samples : List ℕ). length samples ≤ 16777216) (sym same) (few_bytes c.args.number c.args.level c.requires.few) }

pub unreachable-requires : goal.unreachable-requires
unreachable-requires c =
    let queries = c.args.world.now.world.queries in
    let told = c.answer_of.ensures ∙ ap (λ (at : ℕ). option_map_or (λ (x : Query). x.answer) (slice_get queries at) None) c.from.ensures in
    let wrong : ◌≡◌ {A = Option (List ℕ)} None (Some (drill_answer c.args.number c.args.level)) =
    sym (ap option_copied c.in-None.is) ∙ told ∙ answered_at c.args.number c.args.level queries c.requires.answers c.requires.level in
    cc

pub returns : goal.returns
returns c =
    let queries = c.args.world.now.world.queries in
    let told = c.answer_of.ensures ∙ ap (λ (at : ℕ). option_map_or (λ (x : Query). x.answer) (slice_get queries at) None) c.from.ensures in
    let same = answer_is c.args.number c.args.level _ c.in-Some.samples.now queries c.requires.answers c.requires.level told (ap option_copied c.in-Some.is) in
    c.level_of.ensures ∙ ap (λ (samples : List ℕ). level_of c.args.level samples) same
