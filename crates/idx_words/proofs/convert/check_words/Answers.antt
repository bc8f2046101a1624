use Rattle.std.proofs.Common.{◌≡◌, ℕ, ◌+◌, ◌<◌, List, drop, map, string_bytes, sym, ap, ◌∙◌, subst, arith, below_more}
use Rattle.std.proofs.lemmas.Bool.{false≢true}
use Rattle.std.proofs.lemmas.List.{drop-map}
use Rattle.idx_words.specs.declared.convert_word.ConvertWord.TheVariants as words
use Rattle.idx_words.specs.ConvertWord.{place_of, is_right_at}
use Rattle.idx_words.specs.Options.{AreOptions, convert_options}
use Rattle.idx_words.specs.WordAt.{word_at}
use Rattle.idx_words.proofs.PlaceLemmas.{Fault}
use Rattle.idx_words.proofs.RightLemmas.{nth}
use Rattle.idx_words.proofs.ConvertLemmas.{order, place_is, convert_wrong, convert_wrong_end, convert_right}
use Rattle.idx_words.proofs.convert.check_words.Goals as goal

-- the word at the place is right or wrong as the test says
tested : (ws : List (List ℕ)) (k place : ℕ) → k < 10 → (word : List ℕ) → place ≡ place_of (nth words.Dataset order k) → word ≡ word_at ws place →
    is_right_at (nth words.Dataset order k) word ≡ is_right_at (nth words.Dataset order k) (word_at ws k)
tested ws k place less word at is = ap (is_right_at (nth words.Dataset order k)) (is ∙ ap (word_at ws) (at ∙ place_is k less))

pub returns-then-not-accepts-clause-wrong : goal.returns-then-not-accepts-clause-wrong
returns-then-not-accepts-clause-wrong c =
    let ws : List (List ℕ) = map string_bytes c.args.words.now in
    let k = c.loop-word.word-index in
    let less : k < 10 = omega arith in
    let test = tested ws k c.place-place.result less c.word_at.result.now c.place-place.ensures c.word_at.ensures in
    (convert_wrong ws k c.loop-word.invariant less (λ right. false≢true (sym c.if-not-accepts.true ∙ c.accepts.ensures ∙ test ∙ right))).none

pub returns-then-not-accepts-clause-place : goal.returns-then-not-accepts-clause-place
returns-then-not-accepts-clause-place c =
    let ws : List (List ℕ) = map string_bytes c.args.words.now in
    let k = c.loop-word.word-index in
    let less : k < 10 = omega arith in
    let test = tested ws k c.place-place.result less c.word_at.result.now c.place-place.ensures c.word_at.ensures in
    let fault = convert_wrong ws k c.loop-word.invariant less (λ right. false≢true (sym c.if-not-accepts.true ∙ c.accepts.ensures ∙ test ∙ right)) in
    (k, (ap (λ n. n + 1) (c.place-place.ensures ∙ place_is k less)), fault.place)

pub loop-word-preserved : goal.loop-word-preserved
loop-word-preserved c =
    let ws : List (List ℕ) = map string_bytes c.args.words.now in
    let k = c.loop-word.word-index in
    let less : k < 10 = omega arith in
    let test = tested ws k c.place-place.result less c.word_at.result.now c.place-place.ensures c.word_at.ensures in
    below_more _ _ c.loop-word.invariant (sym test ∙ sym c.accepts.ensures ∙ c.if-not-accepts.false)

pub returns-in-Ok-clause-right : goal.returns-in-Ok-clause-right
returns-in-Ok-clause-right c =
    let behind : map string_bytes c.words_from.result.now ≡ drop 10 (map string_bytes c.args.words.now) =
    ap (map string_bytes) c.words_from.ensures ∙ sym (drop-map string_bytes 10 c.args.words.now) in
    convert_right (map string_bytes c.args.words.now) (λ k less. c.loop-word.invariant k (omega arith))
    (subst (AreOptions convert_options) behind c.in-Ok.ensures.right)

pub returns-in-Err-clause-wrong : goal.returns-in-Err-clause-wrong
returns-in-Err-clause-wrong c =
    let behind : map string_bytes c.words_from.result.now ≡ drop 10 (map string_bytes c.args.words.now) =
    ap (map string_bytes) c.words_from.ensures ∙ sym (drop-map string_bytes 10 c.args.words.now) in
    (convert_wrong_end (map string_bytes c.args.words.now) c.in-Err.misread.at (λ k less. c.loop-word.invariant k (omega arith))
    (subst (λ ws. Fault (AreOptions convert_options) ws c.in-Err.misread.at) behind (record { place = c.in-Err.ensures.place; none = c.in-Err.ensures.wrong }))).none

pub returns-in-Err-clause-place : goal.returns-in-Err-clause-place
returns-in-Err-clause-place c =
    let behind : map string_bytes c.words_from.result.now ≡ drop 10 (map string_bytes c.args.words.now) =
    ap (map string_bytes) c.words_from.ensures ∙ sym (drop-map string_bytes 10 c.args.words.now) in
    let fault = convert_wrong_end (map string_bytes c.args.words.now) c.in-Err.misread.at (λ k less. c.loop-word.invariant k (omega arith))
    (subst (λ ws. Fault (AreOptions convert_options) ws c.in-Err.misread.at) behind (record { place = c.in-Err.ensures.place; none = c.in-Err.ensures.wrong })) in
    (c.in-Err.misread.at + 10, omega (arith, c.behind.ensures), fault.place)
