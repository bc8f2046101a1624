use Rattle.std.proofs.Common.{◌≡◌, ℕ, ◌+◌, List, IsTrue, drop, map, string_bytes, refl, sym, ap, ◌∙◌, subst, arith}
use Rattle.std.proofs.lemmas.Bool.{false≢true}
use Rattle.std.proofs.lemmas.List.{drop-map}
use Rattle.idx_words.specs.PathWord.{is_path}
use Rattle.idx_words.specs.ServeGrammar.{AreServeOptions}
use Rattle.idx_words.specs.WordAt.{word_at}
use Rattle.idx_words.proofs.PlaceLemmas.{Fault}
use Rattle.idx_words.proofs.ServeLemmas.{first_below, names_below, serve_right, serve_wrong, serve_wrong_end}
use Rattle.idx_words.proofs.serve.check_words.Goals as goal

pub returns-then-not-is_path-clause-wrong : goal.returns-then-not-is_path-clause-wrong
returns-then-not-is_path-clause-wrong c =
    (serve_wrong (map string_bytes c.args.words.now) 0 (λ k less. absurd (omega arith)) (omega arith)
    (λ path. false≢true (sym c.if-not-is_path.true ∙ c.is_path.ensures ∙ ap is_path c.word_at.ensures ∙ path))).none

pub returns-then-not-is_path-clause-place : goal.returns-then-not-is_path-clause-place
returns-then-not-is_path-clause-place c = (
  0,
  refl,
  (serve_wrong (map string_bytes c.args.words.now) 0 (λ k less. absurd (omega arith)) (omega arith)
      (λ path. false≢true (sym c.if-not-is_path.true ∙ c.is_path.ensures ∙ ap is_path c.word_at.ensures ∙ path))).place,
)

pub returns-then-not-is_path-2-clause-wrong : goal.returns-then-not-is_path-2-clause-wrong
returns-then-not-is_path-2-clause-wrong c =
    let ws : List (List ℕ) = map string_bytes c.args.words.now in
    let first : IsTrue (is_path (word_at ws 0)) = ap is_path (sym c.word_at.ensures) ∙ sym c.is_path.ensures ∙ c.if-not-is_path.false in
    (serve_wrong ws 1 (first_below ws first) (omega arith)
    (λ path. false≢true (sym c.if-not-is_path-2.true ∙ c.is_path-2.ensures ∙ ap is_path c.word_at-2.ensures ∙ path))).none

pub returns-then-not-is_path-2-clause-place : goal.returns-then-not-is_path-2-clause-place
returns-then-not-is_path-2-clause-place c =
    let ws : List (List ℕ) = map string_bytes c.args.words.now in
    let first : IsTrue (is_path (word_at ws 0)) = ap is_path (sym c.word_at.ensures) ∙ sym c.is_path.ensures ∙ c.if-not-is_path.false in (
      1,
      refl,
      (serve_wrong ws 1 (first_below ws first) (omega arith)
          (λ path. false≢true (sym c.if-not-is_path-2.true ∙ c.is_path-2.ensures ∙ ap is_path c.word_at-2.ensures ∙ path))).place,
    )

pub returns-in-Ok-clause-right : goal.returns-in-Ok-clause-right
returns-in-Ok-clause-right c =
    let ws : List (List ℕ) = map string_bytes c.args.words.now in
    let first : IsTrue (is_path (word_at ws 0)) = ap is_path (sym c.word_at.ensures) ∙ sym c.is_path.ensures ∙ c.if-not-is_path.false in
    let second : IsTrue (is_path (word_at ws 1)) = ap is_path (sym c.word_at-2.ensures) ∙ sym c.is_path-2.ensures ∙ c.if-not-is_path-2.false in
    let behind : map string_bytes c.words_from.result.now ≡ drop 2 ws = ap (map string_bytes) c.words_from.ensures ∙ sym (drop-map string_bytes 2 c.args.words.now) in
    serve_right ws (names_below ws first second) (subst AreServeOptions behind c.in-Ok.ensures.right)

pub returns-in-Ok-clause-given : goal.returns-in-Ok-clause-given
returns-in-Ok-clause-given c = c.in-Ok.ensures.read ∙ ap (map string_bytes) c.words_from.ensures ∙ sym (drop-map string_bytes 2 c.args.words.now)

pub returns-in-Err-clause-wrong : goal.returns-in-Err-clause-wrong
returns-in-Err-clause-wrong c =
    let ws : List (List ℕ) = map string_bytes c.args.words.now in
    let first : IsTrue (is_path (word_at ws 0)) = ap is_path (sym c.word_at.ensures) ∙ sym c.is_path.ensures ∙ c.if-not-is_path.false in
    let second : IsTrue (is_path (word_at ws 1)) = ap is_path (sym c.word_at-2.ensures) ∙ sym c.is_path-2.ensures ∙ c.if-not-is_path-2.false in
    let behind : map string_bytes c.words_from.result.now ≡ drop 2 ws = ap (map string_bytes) c.words_from.ensures ∙ sym (drop-map string_bytes 2 c.args.words.now) in
    (serve_wrong_end ws c.in-Err.misread.at (names_below ws first second)
    (subst (λ words. Fault (AreServeOptions) words c.in-Err.misread.at) behind (record { place = c.in-Err.ensures.place; none = c.in-Err.ensures.wrong }))).none

pub returns-in-Err-clause-place : goal.returns-in-Err-clause-place
returns-in-Err-clause-place c =
    let ws : List (List ℕ) = map string_bytes c.args.words.now in
    let first : IsTrue (is_path (word_at ws 0)) = ap is_path (sym c.word_at.ensures) ∙ sym c.is_path.ensures ∙ c.if-not-is_path.false in
    let second : IsTrue (is_path (word_at ws 1)) = ap is_path (sym c.word_at-2.ensures) ∙ sym c.is_path-2.ensures ∙ c.if-not-is_path-2.false in
    let behind : map string_bytes c.words_from.result.now ≡ drop 2 ws = ap (map string_bytes) c.words_from.ensures ∙ sym (drop-map string_bytes 2 c.args.words.now) in
    let fault = serve_wrong_end ws c.in-Err.misread.at (names_below ws first second)
    (subst (λ words. Fault (AreServeOptions) words c.in-Err.misread.at) behind (record { place = c.in-Err.ensures.place; none = c.in-Err.ensures.wrong })) in
    (c.in-Err.misread.at + 2, omega (arith, c.behind.ensures), fault.place)
