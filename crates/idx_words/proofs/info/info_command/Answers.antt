use Rattle.std.proofs.Common.{◌<◌, ◌≤◌, List, ℕ, IsTrue, length, map, string_bytes, refl, sym, ap, ◌∙◌, arith}
use Rattle.std.proofs.lemmas.Bool.{false≢true}
use Rattle.std.proofs.lemmas.List.{length-map}
use Rattle.idx_words.specs.PathWord.{is_path}
use Rattle.idx_words.specs.WordAt.{word_at}
use Rattle.idx_words.proofs.InfoLemmas.{info_more, info_alone, info_is}
use Rattle.idx_words.proofs.info.info_command.Goals as goal

pub returns-then-not-is_path-clause-read : goal.returns-then-not-is_path-clause-read
returns-then-not-is_path-clause-read c =
    let ws : List (List ℕ) = map string_bytes c.args.words.now in
    let wrong : IsTrue (is_path (word_at ws 0)) → ⊥ = λ path. false≢true (sym c.if-not-is_path.true ∙ c.is_path.ensures ∙ ap is_path c.word_at.ensures ∙ path) in
    ((λ same. cc), (λ h. absurd (wrong (info_alone ws h).1)))

pub returns-then-words-gt1-clause-read : goal.returns-then-words-gt1-clause-read
returns-then-words-gt1-clause-read c =
    let ws : List (List ℕ) = map string_bytes c.args.words.now in
    ((λ same. cc), (λ h. absurd (omega (arith, (info_alone ws h).0, length-map c.args.words.now string_bytes))))

pub returns-then-words-gt1-clause-place : goal.returns-then-words-gt1-clause-place
returns-then-words-gt1-clause-place c =
    let ws : List (List ℕ) = map string_bytes c.args.words.now in
    let more : 1 < length ws = omega (arith, length-map c.args.words.now string_bytes) in
    (1, refl, info_more ws (ap is_path (sym c.word_at.ensures) ∙ sym c.is_path.ensures ∙ c.if-not-is_path.false) more)

pub returns-clause-read : goal.returns-clause-read
returns-clause-read c =
    let ws : List (List ℕ) = map string_bytes c.args.words.now in
    let few : length ws ≤ 1 = omega (arith, length-map c.args.words.now string_bytes) in
    ((λ same. info_is ws (ap is_path (sym c.word_at.ensures) ∙ sym c.is_path.ensures ∙ c.if-not-is_path.false) few), (λ h. refl))
