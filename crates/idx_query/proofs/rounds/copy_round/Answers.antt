use Rattle.std.proofs.Common.{◌≡◌, ℕ, sym, ap, ◌∙◌, subst}
use Rattle.std.specs.Prelude.{option_copied, option_map}
use Rattle.std.specs.Arc.{arc_value}
use Rattle.std.proofs.lemmas.Option.{same_Some}
use Rattle.idx_query.specs.Steps.{AreFound, LoadingValue}
use Rattle.idx_query.proofs.rounds.copy_round.Goals as goal

-- src/rounds.rt:106:5
pub copy_blocks-requires-clause-found : goal.copy_blocks-requires-clause-found
copy_blocks-requires-clause-found g c =
    let edition : c.requires.step.0 ≡ c.deref.result.now =
    same_Some c.requires.step.0 (arc_value c.in-Some.edition.now)
    (sym c.requires.step.1 ∙ sym c.edition.ensures ∙ ap (λ o. option_map (λ e. arc_value e) (option_copied o)) c.in-Some.is) ∙ sym c.deref.ensures in
    let bytes : c.args.loading.now.bytes ≡ c.keep_last.new.self.bytes = sym (ap (λ (l : LoadingValue). l.bytes) c.keep_last.ensures) in
    subst (λ (e : g.row.E.Denot). AreFound c.keep_last.new.self.bytes c.args.field (g.E.Blocks.stored e) c.args.part.now.keys c.args.looked.now.found) edition
    (subst (λ (n : ℕ). AreFound n c.args.field (g.E.Blocks.stored c.requires.step.0) c.args.part.now.keys c.args.looked.now.found) bytes c.requires.step.2.found)
