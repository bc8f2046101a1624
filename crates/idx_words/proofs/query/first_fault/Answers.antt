use Rattle.std.proofs.Common.{◌≡◌, ℕ, ◌+◌, ◌<◌, List, drop, map, string_bytes, sym, ap, ◌∙◌, subst, arith, below_more}
use Rattle.std.proofs.lemmas.Bool.{false≢true}
use Rattle.std.proofs.lemmas.List.{drop-map}
use Rattle.idx_words.specs.declared.query_word.QueryWord.TheVariants as words
use Rattle.idx_words.specs.Options.{AreOptions, query_options}
use Rattle.idx_words.specs.QueryWord.{place_of, IsRightAt}
use Rattle.idx_words.specs.WordAt.{word_at}
use Rattle.idx_words.proofs.PlaceLemmas.{Fault}
use Rattle.idx_words.proofs.RightLemmas.{nth}
use Rattle.idx_words.proofs.QueryLemmas.{order, place_is, query_right, query_wrong, query_wrong_end}
use Rattle.idx_words.proofs.query.first_fault.Goals as goal

-- the word that is tested is the one at the place
tested : (ws : List (List ℕ)) (k place : ℕ) → k < 6 → (word : List ℕ) → place ≡ place_of (nth words.Dataset order k) → word ≡ word_at ws place → word ≡ word_at ws k
tested ws k place less word at is = is ∙ ap (word_at ws) (at ∙ place_is k less)

pub returns-then-not-accepts : goal.returns-then-not-accepts
returns-then-not-accepts c =
    let ws : List (List ℕ) = map string_bytes c.args.words.now in
    let k = c.loop-word.word-index in
    let less : k < 6 = omega arith in
    let is = tested ws k c.place-place.result less c.word_at.result.now c.place-place.ensures c.word_at.ensures in
    let fault = query_wrong ws k c.loop-word.invariant less
    (λ right. false≢true (sym c.if-not-accepts.true ∙ c.accepts.ensures.1 (subst (IsRightAt (nth words.Dataset order k)) (sym is) right))) in
    (k, ap (λ n. n + 1) (c.place-place.ensures ∙ place_is k less), fault.place)

pub loop-word-preserved : goal.loop-word-preserved
loop-word-preserved c =
    let ws : List (List ℕ) = map string_bytes c.args.words.now in
    let k = c.loop-word.word-index in
    let less : k < 6 = omega arith in
    let is = tested ws k c.place-place.result less c.word_at.result.now c.place-place.ensures c.word_at.ensures in
    below_more _ _ c.loop-word.invariant (subst (IsRightAt (nth words.Dataset order k)) is (c.accepts.ensures.0 c.if-not-accepts.false))

pub unreachable-requires : goal.unreachable-requires
unreachable-requires c =
    let behind : map string_bytes c.words_from.result.now ≡ drop 6 (map string_bytes c.args.words.now) =
    ap (map string_bytes) c.words_from.ensures ∙ sym (drop-map string_bytes 6 c.args.words.now) in
    c.requires (query_right (map string_bytes c.args.words.now) (λ k less. c.loop-word.invariant k (omega arith))
    (subst (AreOptions query_options) behind c.in-Ok.ensures.right))

pub returns : goal.returns
returns c =
    let behind : map string_bytes c.words_from.result.now ≡ drop 6 (map string_bytes c.args.words.now) =
    ap (map string_bytes) c.words_from.ensures ∙ sym (drop-map string_bytes 6 c.args.words.now) in
    let fault = query_wrong_end (map string_bytes c.args.words.now) c.in-Err.misread.at (λ k less. c.loop-word.invariant k (omega arith))
    (subst (λ ws. Fault (AreOptions query_options) ws c.in-Err.misread.at) behind (record { place = c.in-Err.ensures.place; none = c.in-Err.ensures.wrong })) in
    (c.in-Err.misread.at + 6, omega (arith, c.behind.ensures), fault.place)
