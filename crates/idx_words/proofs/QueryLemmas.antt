-- The words of `query`: each is right or wrong by its place alone.
use Rattle.std.proofs.Common.{◌≡◌, ◌↔◌, ℕ, ◌+◌, ◌-◌, ◌<◌, ◌≤◌, List, [], ◌∷◌, drop, length, map, take, Option, Some, None, codes, refl, sym, ap, ◌∙◌, subst, arith, lit<}
use Rattle.std.specs.List.{slice_index_or}
use Rattle.std.specs.Option.{is_some}
use Rattle.std.proofs.lemmas.Bool.{false≢true}
use Rattle.std.proofs.lemmas.List.{take_all}
use Rattle.std.proofs.lemmas.Option.{same_Some}
use Rattle.idx_text.specs.Number.{number_of}
use Rattle.idx_words.specs.declared.query_word.QueryWord.{QueryWord}
use Rattle.idx_words.specs.declared.query_word.QueryWord.TheVariants as words
use Rattle.idx_words.specs.Options.{AreOptions, cache_of, query_options}
use Rattle.idx_words.specs.Place.{SomeListBegins}
use Rattle.idx_words.specs.QueryGrammar.{AreQueryWords, SpellsLevel}
use Rattle.idx_words.specs.QueryValue.{QueryValue}
use Rattle.idx_words.specs.QueryWord.{place_of, IsRightAt}
use Rattle.idx_words.specs.WordAt.{word_at}
use Rattle.idx_words.specs.Words.{AreSomeQueryWords}
use Rattle.idx_words.proofs.BoxLemmas.{spelled-once}
use Rattle.idx_words.proofs.CutLemmas.{box_some, number_some}
use Rattle.idx_words.proofs.PathLemmas.{path_r, path_some}
use Rattle.idx_words.proofs.PlaceLemmas.{Fault}
use Rattle.idx_words.proofs.RightLemmas.{AreRight, AreRightBelow, Follow, nth, placed, there, goes_on, right_words, wrong_word, wrong_end}
use Rattle.idx_words.proofs.WitnessLemmas.{number_0, origin, spells_origin}

-- the empty word is right nowhere
right_some : (p : QueryWord) → ¬ IsRightAt p []
unfolding number_of
right_some words.Dataset h = path_some [] h refl
right_some words.Time h = false≢true h
right_some words.Field h = path_some [] h refl
right_some words.Region h = box_some [] h.0 h.1 refl
right_some words.Lo h = number_some [] h.0 h.1.number refl
right_some words.Hi h = number_some [] h.0 h.1.number refl

-- the places of the words behind the command
abbrev pub order : List QueryWord
order = words.Dataset ∷ words.Time ∷ words.Field ∷ words.Region ∷ words.Lo ∷ words.Hi ∷ []

-- the place of the word that is read next
pub place_is : (k : ℕ) → k < 6 → place_of (nth words.Dataset order k) ≡ k
place_is k less =
    let follow : Follow place_of 0 order = (refl, (refl, (refl, (refl, (refl, (refl, tt)))))) in
    omega (arith, placed place_of words.Dataset order 0 follow k less)

abbrev Options : List (List ℕ) → Type 0
Options = AreOptions query_options

to_right : (ws : List (List ℕ)) → AreSomeQueryWords ws → AreRight IsRightAt Options order ws
to_right [] h = h.1
to_right (w0 ∷ []) h = absurd h.1
to_right (w0 ∷ w1 ∷ []) h = absurd h.1
to_right (w0 ∷ w1 ∷ w2 ∷ []) h = absurd h.1
to_right (w0 ∷ w1 ∷ w2 ∷ w3 ∷ []) h = absurd h.1
to_right (w0 ∷ w1 ∷ w2 ∷ w3 ∷ w4 ∷ []) h = absurd h.1
to_right (w0 ∷ w1 ∷ w2 ∷ w3 ∷ w4 ∷ w5 ∷ options) (c, h) =
    (h.0, (ap is_some h.1.time_word, (h.1.field_word.name, ((c.region, h.1.region_word), ((c.lo, h.1.lo_word), ((c.hi, h.1.hi_word), h.1.cache_word.pairs))))))

from_right : (ws : List (List ℕ)) → AreRight IsRightAt Options order ws → AreSomeQueryWords ws
from_right [] h = absurd h
from_right (w0 ∷ []) h = absurd h.1
from_right (w0 ∷ w1 ∷ []) h = absurd h.1.1
from_right (w0 ∷ w1 ∷ w2 ∷ []) h = absurd h.1.1.1
from_right (w0 ∷ w1 ∷ w2 ∷ w3 ∷ []) h = absurd h.1.1.1.1
from_right (w0 ∷ w1 ∷ w2 ∷ w3 ∷ w4 ∷ []) h = absurd h.1.1.1.1.1
from_right (w0 ∷ w1 ∷ w2 ∷ w3 ∷ w4 ∷ w5 ∷ options) (dataset, (time, (field, (region, (lo, (hi, pairs)))))) =
    let step = there (number_of w1) time in (
      record { time = step.0; field = w2; region = region.0; lo = lo.0; hi = hi.0; cache = cache_of options },
      (
        dataset,
        record {
          time_word = step.1;
          field_word = record { name = field; same = refl };
          region_word = region.1;
          lo_word = lo.1;
          hi_word = hi.1;
          cache_word = record { pairs = pairs; same = refl };
        },
      ),
    )

-- some words that are right
level_0 : SpellsLevel (codes "0") 0
level_0 = record { number = number_0; small = lit< tt }

some_words : List (List ℕ)
some_words = codes "r" ∷ codes "0" ∷ codes "r" ∷ codes "0 0 0 0" ∷ codes "0" ∷ codes "0" ∷ []

some_right : AreRight IsRightAt Options order some_words
unfolding some_words
some_right = (path_r, (ap is_some number_0, (path_r, ((origin, spells_origin), ((0, level_0), ((0, level_0), refl))))))

-- some list begins with no words
pub query_goes_on : (ws : List (List ℕ)) → SomeListBegins AreSomeQueryWords ws 0
query_goes_on = goes_on IsRightAt Options words.Dataset right_some order AreSomeQueryWords to_right from_right some_words some_right

-- the words are right
pub query_right : (ws : List (List ℕ)) → AreRightBelow IsRightAt words.Dataset 6 order ws → Options (drop 6 ws) → AreSomeQueryWords ws
query_right = right_words IsRightAt Options words.Dataset right_some order AreSomeQueryWords to_right from_right some_words some_right

-- one of the fixed words is wrong or missing
pub query_wrong : (ws : List (List ℕ)) (at : ℕ) → AreRightBelow IsRightAt words.Dataset at order ws → at < 6 → ¬ IsRightAt (nth words.Dataset order at) (word_at ws at) →
    Fault AreSomeQueryWords ws at
query_wrong = wrong_word IsRightAt Options words.Dataset right_some order AreSomeQueryWords to_right from_right some_words some_right

-- one of the options is
pub query_wrong_end : (ws : List (List ℕ)) (at : ℕ) → AreRightBelow IsRightAt words.Dataset 6 order ws → Fault Options (drop 6 ws) at → Fault AreSomeQueryWords ws (at + 6)
query_wrong_end = wrong_end IsRightAt Options words.Dataset right_some order AreSomeQueryWords to_right from_right some_words some_right

-- ---- the values of the words

-- six items of a list, and those behind them
pub six_words : {A : Type 0} (bytes : A → List ℕ) (xs : List A) (a b c d e f : A) → 6 ≤ length xs →
    a ≡ slice_index_or xs 0 a → b ≡ slice_index_or xs 1 b → c ≡ slice_index_or xs 2 c → d ≡ slice_index_or xs 3 d → e ≡ slice_index_or xs 4 e → f ≡ slice_index_or xs 5 f →
    map bytes xs ≡ bytes a ∷ bytes b ∷ bytes c ∷ bytes d ∷ bytes e ∷ bytes f ∷ map bytes (take (length xs - 6) (drop 6 xs))
six_words bytes [] a b c d e f some ha hb hc hd he hf = absurd (omega arith)
six_words bytes (x0 ∷ []) a b c d e f some ha hb hc hd he hf = absurd (omega arith)
six_words bytes (x0 ∷ x1 ∷ []) a b c d e f some ha hb hc hd he hf = absurd (omega arith)
six_words bytes (x0 ∷ x1 ∷ x2 ∷ []) a b c d e f some ha hb hc hd he hf = absurd (omega arith)
six_words bytes (x0 ∷ x1 ∷ x2 ∷ x3 ∷ []) a b c d e f some ha hb hc hd he hf = absurd (omega arith)
six_words bytes (x0 ∷ x1 ∷ x2 ∷ x3 ∷ x4 ∷ []) a b c d e f some ha hb hc hd he hf = absurd (omega arith)
six_words bytes (x0 ∷ x1 ∷ x2 ∷ x3 ∷ x4 ∷ x5 ∷ xs) a b c d e f some ha hb hc hd he hf =
    let count = length (x0 ∷ x1 ∷ x2 ∷ x3 ∷ x4 ∷ x5 ∷ xs) - 6 in
    let all : take count xs ≡ xs = take_all count xs (omega arith) in
    sym (λ i. bytes (ha i) ∷ bytes (hb i) ∷ bytes (hc i) ∷ bytes (hd i) ∷ bytes (he i) ∷ bytes (hf i) ∷ map bytes (all i))

-- the words stand for one value
query_once : (ws : List (List ℕ)) (a b : QueryValue) → AreQueryWords ws a → AreQueryWords ws b → a ≡ b
query_once [] a b one other = absurd one
query_once (w0 ∷ []) a b one other = absurd one
query_once (w0 ∷ w1 ∷ []) a b one other = absurd one
query_once (w0 ∷ w1 ∷ w2 ∷ []) a b one other = absurd one
query_once (w0 ∷ w1 ∷ w2 ∷ w3 ∷ []) a b one other = absurd one
query_once (w0 ∷ w1 ∷ w2 ∷ w3 ∷ w4 ∷ []) a b one other = absurd one
query_once (w0 ∷ w1 ∷ w2 ∷ w3 ∷ w4 ∷ w5 ∷ options) a b (_, one) (_, other) =
    let time : a.time ≡ b.time = same_Some _ _ (sym one.time_word ∙ other.time_word) in
    let field : a.field ≡ b.field = one.field_word.same ∙ sym other.field_word.same in
    let region : a.region ≡ b.region = spelled-once w3 a.region b.region one.region_word other.region_word in
    let lo : a.lo ≡ b.lo = same_Some _ _ (sym one.lo_word.number ∙ other.lo_word.number) in
    let hi : a.hi ≡ b.hi = same_Some _ _ (sym one.hi_word.number ∙ other.hi_word.number) in
    let cache : a.cache ≡ b.cache = one.cache_word.same ∙ sym other.cache_word.same in
    λ i. record { time = time i; field = field i; region = region i; lo = lo i; hi = hi i; cache = cache i }

-- an answer that gives the value of right words
pub query_found : (ws : List (List ℕ)) (value : QueryValue) → AreQueryWords ws value → (c : QueryValue) →
    (◌≡◌ {A = Option QueryValue} (Some value) (Some c)) ↔ AreQueryWords ws c
query_found ws value are c = (
  (λ same. subst (AreQueryWords ws) (same_Some value c same) are),
  (λ others. ap Some (query_once ws value c are others)),
)

-- an answer that gives none, where the words are not right
pub query_refused : (answer : Option QueryValue) (ws : List (List ℕ)) → answer ≡ None → ((c : QueryValue) → ¬ AreQueryWords ws c) → (c : QueryValue) →
    (answer ≡ Some c) ↔ AreQueryWords ws c
query_refused answer ws none wrong c = ((λ same. cc), (λ are. absurd (wrong c are)))
