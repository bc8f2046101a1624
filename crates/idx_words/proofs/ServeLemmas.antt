-- The words of `serve`: two names, and options behind them.
use Rattle.std.proofs.Common.{◌≡◌, ◌≢◌, ◌↔◌, ℕ, zero, suc, ◌+◌, ◌<◌, true, false, cond, List, [], ◌∷◌, ◌++◌, drop, length, Option, Some, None, IsTrue, codes, refl, sym, ap, ◌∙◌, subst, arith}
use Rattle.std.specs.Option.{is_some, option_or}
use Rattle.std.proofs.lemmas.List.{append-nil}
use Rattle.idx_text.specs.Number.{number_of}
use Rattle.idx_words.specs.declared.setting.Setting.{Setting}
use Rattle.idx_words.specs.declared.setting.Setting.TheVariants as options
use Rattle.idx_words.specs.Options.{AreOptions, cache_of, given, is_name, name_of, number_given, serve_options, workers_of}
use Rattle.idx_words.specs.PathWord.{is_path}
use Rattle.idx_words.specs.Place.{SomeListBegins}
use Rattle.idx_words.specs.ServeGrammar.{AreServeOptions, AreServeWords, AreSomeServeWords, ingest_of}
use Rattle.idx_words.specs.ServeValue.{ServeValue}
use Rattle.idx_words.specs.WordAt.{word_at}
use Rattle.idx_words.proofs.PathLemmas.{path_r, path_some}
use Rattle.idx_words.proofs.OptionLemmas.{given_behind, goes_behind, right_pairs}
use Rattle.idx_words.proofs.PlaceLemmas.{Fault, IsPlace-end, IsPlace-narrower}
use Rattle.idx_words.proofs.RightLemmas.{AreRight, AreRightBelow, nth, goes_on, right_words, wrong_word, wrong_end}

-- ---- the options

-- right pairs without one of two options go on with it, and give both
module _ (words : List (List ℕ)) (right : AreOptions serve_options words) (option : Setting) (value : List ℕ) where
  same_given : (other : Setting) → is_name (name_of option) other ≡ false → given (words ++ name_of option ∷ value ∷ []) other ≡ given words other
  same_given other is = given_behind words (name_of option) value other (right_pairs serve_options words right)
      ∙ ap (λ b. option_or (given words other) (cond b (Some value) None)) is ∙ or_none (given words other)
    where
      or_none : (found : Option (List ℕ)) → option_or found None ≡ found
      or_none None = refl
      or_none (Some word) = refl

  new_given : is_name (name_of option) option ≡ true → given words option ≡ None → given (words ++ name_of option ∷ value ∷ []) option ≡ Some value
  new_given is none = given_behind words (name_of option) value option (right_pairs serve_options words right)
      ∙ ap (λ b. option_or (given words option) (cond b (Some value) None)) is ∙ ap (λ found. option_or found (Some value)) none

-- a list of right pairs goes on to one that gives both or neither
pub options_go_on : (words : List (List ℕ)) → AreOptions serve_options words → (rest : List (List ℕ)) × AreServeOptions (words ++ rest)
unfolding is_path number_of
options_go_on words right = by_both (given words options.Ingest) (given words options.Raw) refl refl
  where
    by_both : (step raw : Option (List ℕ)) → given words options.Ingest ≡ step → given words options.Raw ≡ raw → (rest : List (List ℕ)) × AreServeOptions (words ++ rest)
    by_both None None no_step no_raw = ([], subst AreServeOptions (sym (append-nil words)) (record { pairs = right; both = rw (no_step, no_raw) refl }))
    by_both (Some step) (Some raw) has_step has_raw = ([], subst AreServeOptions (sym (append-nil words)) (record { pairs = right; both = rw (has_step, has_raw) refl }))
    by_both None (Some raw) no_step has_raw = (
      name_of options.Ingest ∷ codes "0" ∷ [],
      record {
        pairs = goes_behind serve_options words options.Ingest (codes "0") right refl no_step refl;
        both = ap is_some (new_given words right options.Ingest (codes "0") refl no_step)
            ∙ sym (ap is_some (same_given words right options.Ingest (codes "0") options.Raw refl ∙ has_raw));
      },
    )
    by_both (Some step) None has_step no_raw = (
      name_of options.Raw ∷ codes "r" ∷ [],
      record {
        pairs = goes_behind serve_options words options.Raw (codes "r") right refl no_raw refl;
        both = ap is_some (same_given words right options.Raw (codes "r") options.Ingest refl ∙ has_step)
            ∙ sym (ap is_some (new_given words right options.Raw (codes "r") refl no_raw));
      },
    )

-- one of the pairs is wrong or missing
pub options_wrong : (words : List (List ℕ)) (at : ℕ) → Fault (AreOptions serve_options) words at → Fault AreServeOptions words at
options_wrong words at fault = record {
  place = IsPlace-narrower (AreOptions serve_options) AreServeOptions words at (λ list are. are.pairs) options_go_on fault.place;
  none = λ are. fault.none are.pairs;
}

-- one of the two options is missing
pub option_missing : (words : List (List ℕ)) → AreOptions serve_options words → is_some (given words options.Ingest) ≢ is_some (given words options.Raw) →
    Fault AreServeOptions words (length words)
option_missing words right differ = record {
  place = IsPlace-end (AreOptions serve_options) AreServeOptions words options_go_on right;
  none = λ are. differ are.both;
}

-- ---- the words

-- each of the two words is a name
abbrev pub IsNameAt : Unit {0} → List ℕ → Type 0
IsNameAt place word = IsTrue (is_path word)

abbrev pub order : List (Unit {0})
order = tt ∷ tt ∷ []

name_some : (place : Unit {0}) → ¬ IsNameAt place []
name_some place h = path_some [] h refl

to_right : (ws : List (List ℕ)) → AreSomeServeWords ws → AreRight IsNameAt AreServeOptions order ws
to_right [] h = h.1
to_right (w0 ∷ []) h = absurd h.1
to_right (w0 ∷ w1 ∷ options) (c, h) = (h.0.name, (h.1.name, h.2.pairs))

from_right : (ws : List (List ℕ)) → AreRight IsNameAt AreServeOptions order ws → AreSomeServeWords ws
from_right [] h = absurd h
from_right (w0 ∷ []) h = absurd h.1
from_right (w0 ∷ w1 ∷ words) (dataset, (address, pairs)) = (
  record { dataset = w0; address = w1; cache = cache_of words; workers = workers_of words; links = number_given words options.Links; ingest = ingest_of words },
  (
    record { name = dataset; same = refl },
    record { name = address; same = refl },
    record { pairs = pairs; cache = refl; workers = refl; links = refl; ingest = refl },
  ),
)

some_words : List (List ℕ)
some_words = codes "r" ∷ codes "r" ∷ []

some_right : AreRight IsNameAt AreServeOptions order some_words
unfolding some_words
some_right = (path_r, (path_r, record { pairs = refl; both = refl }))

-- some list begins with no words
pub serve_goes_on : (ws : List (List ℕ)) → SomeListBegins AreSomeServeWords ws 0
serve_goes_on = goes_on IsNameAt AreServeOptions tt name_some order AreSomeServeWords to_right from_right some_words some_right

-- the words are right
pub serve_right : (ws : List (List ℕ)) → AreRightBelow IsNameAt tt 2 order ws → AreServeOptions (drop 2 ws) → AreSomeServeWords ws
serve_right = right_words IsNameAt AreServeOptions tt name_some order AreSomeServeWords to_right from_right some_words some_right

-- one of the names is wrong or missing
pub serve_wrong : (ws : List (List ℕ)) (at : ℕ) → AreRightBelow IsNameAt tt at order ws → at < 2 → ¬ IsNameAt (nth tt order at) (word_at ws at) → Fault AreSomeServeWords ws at
serve_wrong = wrong_word IsNameAt AreServeOptions tt name_some order AreSomeServeWords to_right from_right some_words some_right

-- one of the options is
pub serve_wrong_end : (ws : List (List ℕ)) (at : ℕ) → AreRightBelow IsNameAt tt 2 order ws → Fault AreServeOptions (drop 2 ws) at → Fault AreSomeServeWords ws (at + 2)
serve_wrong_end = wrong_end IsNameAt AreServeOptions tt name_some order AreSomeServeWords to_right from_right some_words some_right

-- the names are right, one after the other
pub first_below : (ws : List (List ℕ)) → IsTrue (is_path (word_at ws 0)) → AreRightBelow IsNameAt tt 1 order ws
first_below ws first zero less = first
first_below ws first (suc k) less = absurd (omega arith)

pub names_below : (ws : List (List ℕ)) → IsTrue (is_path (word_at ws 0)) → IsTrue (is_path (word_at ws 1)) → AreRightBelow IsNameAt tt 2 order ws
names_below ws first second zero less = first
names_below ws first second (suc zero) less = second
names_below ws first second (suc (suc k)) less = absurd (omega arith)

-- right words stand for the one value that has their names and what their options give
pub serve_is : (ws : List (List ℕ)) (value : ServeValue) → AreSomeServeWords ws → value.dataset ≡ word_at ws 0 → value.address ≡ word_at ws 1 →
    value.cache ≡ cache_of (drop 2 ws) → value.workers ≡ workers_of (drop 2 ws) → value.links ≡ number_given (drop 2 ws) options.Links →
    value.ingest ≡ ingest_of (drop 2 ws) →
    (c : ServeValue) → (value ≡ c) ↔ AreServeWords ws c
serve_is [] value some dataset address cache workers links ingest c = absurd some.1
serve_is (w0 ∷ []) value some dataset address cache workers links ingest c = absurd some.1
serve_is (w0 ∷ w1 ∷ words) value (found, some) dataset address cache workers links ingest c = (
  (λ same. subst (AreServeWords (w0 ∷ w1 ∷ words)) same (
    record { name = some.0.name; same = dataset },
    record { name = some.1.name; same = address },
    record { pairs = some.2.pairs; cache = cache; workers = workers; links = links; ingest = ingest },
  )),
  (λ are.
      let same_dataset : value.dataset ≡ c.dataset = dataset ∙ sym are.0.same in
      let same_address : value.address ≡ c.address = address ∙ sym are.1.same in
      let same_cache : value.cache ≡ c.cache = cache ∙ sym are.2.cache in
      let same_workers : value.workers ≡ c.workers = workers ∙ sym are.2.workers in
      let same_links : value.links ≡ c.links = links ∙ sym are.2.links in
      let same_ingest : value.ingest ≡ c.ingest = ingest ∙ sym are.2.ingest in
      λ i. record {
        dataset = same_dataset i;
        address = same_address i;
        cache = same_cache i;
        workers = same_workers i;
        links = same_links i;
        ingest = same_ingest i;
      }),
)
