use Rattle.std.proofs.Common.{◌≡◌, ◌↔◌, Option, Some, None, All, IsTrue, refl, sym, subst, ◌∙◌}
use Rattle.std.specs.Option.{SomeIff, is_some}
use Rattle.std.proofs.lemmas.Bool.{false≢true}
use Rattle.idx_hz.specs.Guess.{CanGuess, guessed_mask}
use Rattle.idx_words.proofs.HasMaskLemmas.{HasMask-origin, HasMask-guessed, CanGuess-covered}
use Rattle.idx_words.proofs.cut.has_mask.Goals as goal

-- there is a value exactly where it may be
some_iff : {T : Type 0} (found : Option T) (P : Type 0) (v : T) → SomeIff found P v → IsTrue (is_some found) ↔ P
some_iff None P v h = ((λ e. absurd (false≢true e)), (λ p. absurd (h p)))
some_iff (Some x) P v h = ((λ e. h.0), (λ p. refl))

pub returns-then-is_origin : goal.returns-then-is_origin
returns-then-is_origin c = (
  (λ _. HasMask-origin c.args.extent.now c.requires (subst (All (λ x. x ≡ 0)) c.hi.ensures (c.is_origin.ensures.0 c.if-is_origin.true))),
  (λ _. c.if-is_origin.true),
)

pub returns-else-is_origin : goal.returns-else-is_origin
returns-else-is_origin c =
    let box = c.args.extent.now in
    let guessed = some_iff c.guess.result (CanGuess box) (guessed_mask box) c.guess.ensures.mask in (
      (λ is. HasMask-guessed box c.requires (guessed.0 (sym c.is_some.ensures ∙ is))),
      (λ has. c.is_some.ensures ∙ guessed.1 (CanGuess-covered box c.requires
          (λ origin. false≢true (sym c.if-is_origin.false ∙ c.is_origin.ensures.1 (subst (All (λ x. x ≡ 0)) (sym c.hi.ensures) origin))) has)),
    )
