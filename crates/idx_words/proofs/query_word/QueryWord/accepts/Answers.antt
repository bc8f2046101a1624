use Rattle.std.proofs.Common.{◌≡◌, ◌↔◌, IsTrue, sym, ◌∙◌, subst, ⊎_elim}
use Rattle.idx_words.specs.declared.query_word.QueryWord.TheVariants as words
use Rattle.idx_words.specs.QueryGrammar.{SpellsLevel}
use Rattle.idx_words.specs.QueryWord.{IsRightAt}
use Rattle.idx_words.proofs.RightLemmas.{there_is}
use Rattle.idx_words.proofs.query_word.QueryWord.accepts.Goals as goal

pub returns-in-Lo : goal.returns-in-Lo
returns-in-Lo c =
    let level = there_is c.read_level.result (SpellsLevel c.args.word.now) c.read_level.ensures in
    let test : IsTrue c.is_some-in-Lo.result ↔ IsRightAt words.Lo c.args.word.now =
    ((λ is. level.0 (sym c.is_some-in-Lo.ensures ∙ is)), (λ has. c.is_some-in-Lo.ensures ∙ level.1 has)) in
    ⊎_elim
    (λ (lo : c.args.self ≡ words.Lo). subst (λ w. IsTrue c.is_some-in-Lo.result ↔ IsRightAt w c.args.word.now) (sym lo) test)
    (λ (hi : c.args.self ≡ words.Hi). subst (λ w. IsTrue c.is_some-in-Lo.result ↔ IsRightAt w c.args.word.now) (sym hi) test)
    c.in-Lo.is
