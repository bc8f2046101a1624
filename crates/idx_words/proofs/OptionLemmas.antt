-- The options behind the fixed words: pair by pair, each is right or wrong over the options that are left.
use Rattle.std.proofs.Common.{◌≡◌, ℕ, zero, suc, ◌+◌, ◌-◌, ◌<◌, ◌≤◌, Bool, true, false, ◌&&◌, not, cond, List, [], ◌∷◌, ◌++◌, drop, length, map, take, Option, Some, None, IsTrue, IfSome, codes, refl, sym, ap, ◌∙◌, subst, arith}
use Rattle.std.specs.List.{filter, find, slice_index_or}
use Rattle.std.specs.Option.{is_none, option_and_then, option_or}
use Rattle.std.specs.Cmp.Lexicographic.{same_text}
use Rattle.std.proofs.lemmas.Bool.{false≢true, and_from, and_parts}
use Rattle.std.proofs.lemmas.List.{drop-drop, drop-map, take-map, take_all}
use Rattle.std.proofs.lemmas.Option.{none-some, same_Some}
use Rattle.idx_text.specs.Number.{number_of}
use Rattle.idx_words.specs.declared.setting.Setting.{Setting}
use Rattle.idx_words.specs.declared.setting.Setting.TheVariants as options
use Rattle.idx_words.specs.Options.{AreOptions, are_options, given, is_in, is_name, is_value, name_of, named, number_given, others, takes}
use Rattle.idx_words.specs.PathWord.{is_path}
use Rattle.idx_words.specs.Place.{IsPlace}
use Rattle.idx_words.specs.Settings.{ArePairs, AreWithin, IsFrom, open_among}
use Rattle.idx_words.specs.WordAt.{word_at}
use Rattle.idx_words.proofs.PlaceLemmas.{Fault, IsPlace-at, IsPlace-behind}

-- ---- what is found, and lists that are filtered twice

module _ {X : Type 0} (p : X → Bool) where
  -- what is found passes the test
  pub found_passes : (xs : List X) (x : X) → find p xs ≡ Some x → p x ≡ true
  found_passes [] x found = absurd (none-some x found)
  found_passes (y ∷ xs) x found = step (p y) refl found (found_passes xs x)
    where
      step : (b : Bool) → p y ≡ b → cond b (Some y) (find p xs) ≡ Some x → (find p xs ≡ Some x → p x ≡ true) → p x ≡ true
      step true is found rest = subst (λ z. p z ≡ true) (same_Some y x found) is
      step false is found rest = rest found

  module _ (q : X → Bool) where
    -- and is found among those that pass another test too, if it passes that
    pub found_among : (xs : List X) (x : X) → find p xs ≡ Some x → q x ≡ true → find p (filter q xs) ≡ Some x
    found_among [] x found passes = found
    found_among (y ∷ xs) x found passes = step (p y) (q y) refl refl found (λ later. found_among xs x later passes)
      where
        step : (b c : Bool) → p y ≡ b → q y ≡ c → cond b (Some y) (find p xs) ≡ Some x → (find p xs ≡ Some x → find p (filter q xs) ≡ Some x) →
            find p (cond c (y ∷ filter q xs) (filter q xs)) ≡ Some x
        step true true is keeps found rest = ap (λ b. cond b (Some y) (find p (filter q xs))) is ∙ found
        step true false is keeps found rest = absurd (false≢true (sym keeps ∙ ap q (same_Some y x found) ∙ passes))
        step false true is keeps found rest = ap (λ b. cond b (Some y) (find p (filter q xs))) is ∙ rest found
        step false false is keeps found rest = rest found

    -- a test that is both
    pub filter_both : (r : X → Bool) → ((x : X) → r x ≡ (p x && q x)) → (xs : List X) → filter r xs ≡ filter p (filter q xs)
    filter_both r same [] = refl
    filter_both r same (x ∷ xs) = step (same x) (filter_both r same xs) (q x) (p x) refl refl
      where
        step : r x ≡ (p x && q x) → filter r xs ≡ filter p (filter q xs) → (b c : Bool) → q x ≡ b → p x ≡ c → filter r (x ∷ xs) ≡ filter p (filter q (x ∷ xs))
        step same rest b c qb pc = grind (arith, same, rest, qb, pc)

-- ---- one more pair

-- what words give with one more pair behind them
pub given_behind : (before : List (List ℕ)) (name value : List ℕ) (option : Setting) → ArePairs before →
    given (before ++ name ∷ value ∷ []) option ≡ option_or (given before option) (cond (is_name name option) (Some value) None)
given_behind [] name value option pairs = refl
given_behind (x ∷ []) name value option pairs = absurd pairs
given_behind (x ∷ y ∷ before) name value option pairs =
    first (is_name x option) (given before option) (cond (is_name name option) (Some value) None) y _ (given_behind before name value option pairs)
  where
    first : (b : Bool) (some other : Option (List ℕ)) (y : List ℕ) (all : Option (List ℕ)) → all ≡ option_or some other →
        cond b (Some y) all ≡ option_or (cond b (Some y) some) other
    first true some other y all is = refl
    first false some other y all is = is

-- pairs with one more pair
pub pairs_behind : (before : List (List ℕ)) (name value : List ℕ) → ArePairs before → ArePairs (before ++ name ∷ value ∷ [])
pairs_behind [] name value pairs = tt
pairs_behind (x ∷ []) name value pairs = absurd pairs
pairs_behind (x ∷ y ∷ before) name value pairs = pairs_behind before name value pairs

-- its option is given then, and the others stay open
pub left_open : (before : List (List ℕ)) (name value : List ℕ) (all : List Setting) → ArePairs before →
    open_among (before ++ name ∷ value ∷ []) all ≡ others name (open_among before all)
left_open before name value all pairs = filter_both (λ option. not (is_name name option)) (λ option. is_none (given before option))
    (λ option. is_none (given (before ++ name ∷ value ∷ []) option))
    (λ option. ap is_none (given_behind before name value option pairs) ∙ none_or (given before option) (is_name name option)) all
  where
    none_or : (found : Option (List ℕ)) (b : Bool) → is_none (option_or found (cond b (Some value) None)) ≡ (not b && is_none found)
    none_or None true = refl
    none_or None false = refl
    none_or (Some word) true = refl
    none_or (Some word) false = refl

-- at first all are open
pub all_open : (all : List Setting) → open_among [] all ≡ all
all_open [] = refl
all_open (option ∷ all) = ap (λ rest. option ∷ rest) (all_open all)

-- ---- what is given

-- a word names one option
every : List Setting
every = options.Ranks ∷ options.Layout ∷ options.Cache ∷ options.Workers ∷ options.Links ∷ options.Ingest ∷ options.Raw ∷ []

of_name : (option : Setting) → named (name_of option) every ≡ Some option
unfolding every
of_name options.Ranks = refl
of_name options.Layout = refl
of_name options.Cache = refl
of_name options.Workers = refl
of_name options.Links = refl
of_name options.Ingest = refl
of_name options.Raw = refl

name_is : (word : List ℕ) (option : Setting) → is_name word option ≡ true → word ≡ name_of option
name_is word option h = same_text word (name_of option) (sym h)

pub name_once : (word : List ℕ) (a b : Setting) → is_name word a ≡ true → is_name word b ≡ true → a ≡ b
name_once word a b one other =
    same_Some a b (sym (of_name a) ∙ ap (λ name. named name every) (sym (name_is word a one) ∙ name_is word b other) ∙ of_name b)

-- what right words give is a value of its option
pub given_right : (all : List Setting) (words : List (List ℕ)) → AreOptions all words → (option : Setting) → IfSome (given words option) (λ word. IsTrue (is_value option word))
given_right all [] right option = tt
given_right all (name ∷ []) right option = tt
given_right all (name ∷ value ∷ words) right option =
    by_option (given_right (others name all) words (and_parts (takes (named name all) value) _ right).1 option) (named name all) refl (is_name name option) refl
  where
    by_option : IfSome (given words option) (λ word. IsTrue (is_value option word)) → (found : Option Setting) → named name all ≡ found →
        (b : Bool) → is_name name option ≡ b → IfSome (cond b (Some value) (given words option)) (λ word. IsTrue (is_value option word))
    by_option rest found is_found false is = rest
    by_option rest None none true is = absurd (false≢true (subst (λ found. (takes found value && are_options (others name all) words) ≡ true) none right))
    by_option rest (Some other) some true is =
        subst (λ o. IsTrue (is_value o value)) (name_once name other option (found_passes (is_name name) all other some) is)
        (and_parts _ _ (subst (λ found. (takes found value && are_options (others name all) words) ≡ true) some right)).0

-- right words are pairs
pub right_pairs : (all : List Setting) (words : List (List ℕ)) → AreOptions all words → ArePairs words
right_pairs all [] right = tt
right_pairs all (name ∷ []) right = false≢true right
right_pairs all (name ∷ value ∷ words) right = right_pairs (others name all) words (and_parts (takes (named name all) value) _ right).1

-- the number of a value is within the limits
number_in : (least most : ℕ) (found : Option (List ℕ)) → IfSome found (λ word. IsTrue (is_in least most (number_of word))) → IfSome (option_and_then number_of found) (IsFrom least most)
number_in least most None value = tt
number_in least most (Some word) value = by_number (number_of word) value
  where
    by_number : (number : Option ℕ) → IsTrue (is_in least most number) → IfSome number (IsFrom least most)
    by_number None value = tt
    by_number (Some n) value = grind arith

pub are_within : (all : List Setting) (words : List (List ℕ)) → AreOptions all words → AreWithin words
are_within all words right = record {
  ranks = number_in 1 256 (given words options.Ranks) (given_right all words right options.Ranks);
  cache = number_in 1 65536 (given words options.Cache) (given_right all words right options.Cache);
  workers = number_in 1 64 (given words options.Workers) (given_right all words right options.Workers);
  links = some_links (number_given words options.Links) (number_in 1 9999999999999999999 (given words options.Links) (given_right all words right options.Links));
  raw = given_right all words right options.Raw;
}
  where
    some_links : (number : Option ℕ) → IfSome number (IsFrom 1 9999999999999999999) → IfSome number (λ links. 1 ≤ links)
    some_links None within = tt
    some_links (Some n) within = within.0

-- ---- the first pair

-- the empty word is no value, and some word is one
no_value : (option : Setting) → is_value option [] ≡ false
unfolding number_of is_path
no_value options.Ranks = refl
no_value options.Layout = refl
no_value options.Cache = refl
no_value options.Workers = refl
no_value options.Links = refl
no_value options.Ingest = refl
no_value options.Raw = refl

some_value : Setting → List ℕ
some_value options.Ranks = codes "1"
some_value options.Layout = codes "hz"
some_value options.Cache = codes "1"
some_value options.Workers = codes "1"
some_value options.Links = codes "1"
some_value options.Ingest = codes "1"
some_value options.Raw = codes "1"

one_value : (option : Setting) → is_value option (some_value option) ≡ true
unfolding number_of is_path some_value
one_value options.Ranks = refl
one_value options.Layout = refl
one_value options.Cache = refl
one_value options.Workers = refl
one_value options.Links = refl
one_value options.Ingest = refl
one_value options.Raw = refl

module _ (all : List Setting) (name : List ℕ) (words : List (List ℕ)) where
  module _ (option : Setting) (is : named name all ≡ Some option) where
    -- with the option that it names
    with_option : (value : List ℕ) (rest : List (List ℕ)) →
        are_options all (name ∷ value ∷ rest) ≡ (is_value option value && are_options (others name all) rest)
    with_option value rest = ap (λ found. takes found value && are_options (others name all) rest) is

    -- its value is missing, or wrong
    pub wrong_value : is_value option (word_at words 0) ≡ false → Fault (AreOptions all) (name ∷ words) 1
    wrong_value wrong = record {
      place = IsPlace-at (AreOptions all) (name ∷ words) 1 (omega arith)
          (some_value option ∷ [], with_option (some_value option) [] ∙ ap (λ b. b && true) (one_value option))
          (λ less begins. never words wrong begins.0 less begins.1);
      none = none words wrong;
    }
      where
        no_pair : (value : List ℕ) (rest : List (List ℕ)) → is_value option value ≡ false → ¬ AreOptions all (name ∷ value ∷ rest)
        no_pair value rest wrong h = false≢true (sym (ap (λ b. b && are_options (others name all) rest) wrong) ∙ sym (with_option value rest) ∙ h)

        none : (words : List (List ℕ)) → is_value option (word_at words 0) ≡ false → ¬ AreOptions all (name ∷ words)
        none [] wrong h = false≢true h
        none (value ∷ rest) wrong h = no_pair value rest wrong h

        never : (words : List (List ℕ)) → is_value option (word_at words 0) ≡ false → (rest : List (List ℕ)) → 1 < length (name ∷ words) →
            ¬ AreOptions all (take 2 (name ∷ words) ++ rest)
        never [] wrong rest less h = absurd (omega arith)
        never (value ∷ more) wrong rest less h = no_pair value rest wrong h

    module _ (value : List ℕ) (reads : IsTrue (is_value option value)) where
      with_pair : (rest : List (List ℕ)) → are_options all (name ∷ value ∷ rest) ≡ are_options (others name all) rest
      with_pair rest = with_option value rest ∙ ap (λ b. b && are_options (others name all) rest) reads

      -- the words behind the pair are pairs of the other options
      pub pair_right : AreOptions (others name all) words → AreOptions all (name ∷ value ∷ words)
      pair_right h = with_pair words ∙ h

      pub pair_wrong : (at : ℕ) → Fault (AreOptions (others name all)) words at → Fault (AreOptions all) (name ∷ value ∷ words) (at + 2)
      pair_wrong at fault = record {
        place = subst (IsPlace (AreOptions all) (name ∷ value ∷ words)) (let e : at + 1 + 1 ≡ at + 2 = omega arith in e)
            (IsPlace-behind (λ list. AreOptions all (name ∷ list)) (AreOptions all) name (value ∷ words) (at + 1) (λ list h. h) (λ list h. h) (value ∷ [], with_pair [])
            (IsPlace-behind (AreOptions (others name all)) (λ list. AreOptions all (name ∷ list)) value words at
            (λ list h. with_pair list ∙ h) (λ list h. sym (with_pair list) ∙ h) ([], refl) fault.place));
        none = λ h. fault.none (sym (with_pair words) ∙ h);
      }

-- ---- a pair in a list of words

-- the words behind so many pairs begin with a pair of an option that those leave
pub record Pair (all : List Setting) (words : List (List ℕ)) (read : ℕ) (name value : List ℕ) (option : Setting) : Type 0 where
  pub pairs : ArePairs (take read words)
  pub next : drop read words ≡ name ∷ value ∷ drop (read + 2) words
  pub is : named name (open_among (take read words) all) ≡ Some option
  pub reads : IsTrue (is_value option value)

-- two more words
take_two : (words : List (List ℕ)) (read : ℕ) (name value : List ℕ) → drop read words ≡ name ∷ value ∷ drop (read + 2) words →
    take (read + 2) words ≡ take read words ++ name ∷ value ∷ []
take_two [] zero name value next = cc
take_two (x ∷ []) zero name value next = cc
take_two (x ∷ y ∷ words) zero name value next = let one : x ≡ name = cc in let two : y ≡ value = cc in λ i. one i ∷ two i ∷ []
take_two [] (suc read) name value next = cc
take_two (x ∷ words) (suc read) name value next =
    let more : suc read + 2 ≡ suc (read + 2) = omega arith in
    ap (λ n. take n (x ∷ words)) more ∙ ap (λ rest. x ∷ rest) (take_two words read name value (subst (λ n. drop read words ≡ name ∷ value ∷ drop n (x ∷ words)) more next))

-- so many there are
two_more : (words : List (List ℕ)) (read : ℕ) (name value : List ℕ) (rest : List (List ℕ)) → drop read words ≡ name ∷ value ∷ rest → read + 2 ≤ length words
two_more [] zero name value rest next = cc
two_more (x ∷ []) zero name value rest next = cc
two_more (x ∷ y ∷ words) zero name value rest next = omega arith
two_more [] (suc read) name value rest next = cc
two_more (x ∷ words) (suc read) name value rest next = omega (arith, two_more words read name value rest next)

module _ {all : List Setting} {words : List (List ℕ)} {read : ℕ} {name value : List ℕ} {option : Setting} (pair : Pair all words read name value option) where
  left : open_among (take (read + 2) words) all ≡ others name (open_among (take read words) all)
  left = ap (λ before. open_among before all) (take_two words read name value pair.next) ∙ left_open (take read words) name value all pair.pairs

  pub step_within : read + 2 ≤ length words
  step_within = two_more words read name value (drop (read + 2) words) pair.next

  pub step_pairs : ArePairs (take (read + 2) words)
  step_pairs = subst ArePairs (sym (take_two words read name value pair.next)) (pairs_behind (take read words) name value pair.pairs)

  pub step_right : AreOptions (open_among (take (read + 2) words) all) (drop (read + 2) words) → AreOptions (open_among (take read words) all) (drop read words)
  step_right h = subst (AreOptions (open_among (take read words) all)) (sym pair.next)
      (pair_right (open_among (take read words) all) name (drop (read + 2) words) option pair.is value pair.reads (subst (λ options. AreOptions options (drop (read + 2) words)) left h))

  pub step_wrong : (at : ℕ) → Fault (AreOptions (open_among (take (read + 2) words) all)) (drop (read + 2) words) at →
      Fault (AreOptions (open_among (take read words) all)) (drop read words) (at + 2)
  step_wrong at fault = subst (λ ws. Fault (AreOptions (open_among (take read words) all)) ws (at + 2)) (sym pair.next)
      (pair_wrong (open_among (take read words) all) name (drop (read + 2) words) option pair.is value pair.reads at
      (subst (λ options. Fault (AreOptions options) (drop (read + 2) words) at) left fault))

-- ---- one more pair behind right words

-- an option that right words do not give may stand behind them
pub goes_behind : (all : List Setting) (words : List (List ℕ)) (option : Setting) (value : List ℕ) → AreOptions all words → named (name_of option) all ≡ Some option →
    given words option ≡ None → IsTrue (is_value option value) → AreOptions all (words ++ name_of option ∷ value ∷ [])
goes_behind all [] option value right is none reads = pair_right all (name_of option) [] option is value reads refl
goes_behind all (name ∷ []) option value right is none reads = absurd (false≢true right)
goes_behind all (name ∷ other ∷ words) option value right is none reads =
    let parts = and_parts (takes (named name all) other) (are_options (others name all) words) right in
    and_from _ _ parts.0 (goes_behind (others name all) words option value parts.1
    (found_among (is_name (name_of option)) (λ option. not (is_name name option)) all option is (ap not (unnamed (is_name name option) none)))
    (ungiven (is_name name option) none) reads)
  where
    unnamed : (b : Bool) → cond b (Some other) (given words option) ≡ None → b ≡ false
    unnamed true none = absurd (none-some other (sym none))
    unnamed false none = refl

    ungiven : (b : Bool) → cond b (Some other) (given words option) ≡ None → given words option ≡ None
    ungiven true none = absurd (none-some other (sym none))
    ungiven false none = none

-- ---- the words that are read

-- the first two items of a list, and those behind them
pub first_two : {A : Type 0} (bytes : A → List ℕ) (xs : List A) (a b : A) → 2 ≤ length xs → a ≡ slice_index_or xs 0 a → b ≡ slice_index_or xs 1 b →
    map bytes xs ≡ bytes a ∷ bytes b ∷ map bytes (take (length xs - 2) (drop 2 xs))
first_two bytes [] a b some one other = absurd (omega arith)
first_two bytes (x ∷ []) a b some one other = absurd (omega arith)
first_two bytes (x ∷ y ∷ xs) a b some one other =
    let all : take (length (x ∷ y ∷ xs) - 2) xs ≡ xs = take_all (length (x ∷ y ∷ xs) - 2) xs (omega arith) in
    sym (λ i. bytes (one i) ∷ bytes (other i) ∷ map bytes (all i))

-- the first item, and those behind it
first_item : {A : Type 0} (bytes : A → List ℕ) (xs : List A) (a : A) → 1 ≤ length xs → a ≡ slice_index_or xs 0 a →
    map bytes xs ≡ bytes a ∷ map bytes (take (length xs - 1) (drop 1 xs))
first_item bytes [] a some is = absurd (omega arith)
first_item bytes (x ∷ xs) a some is =
    let all : take (length (x ∷ xs) - 1) xs ≡ xs = take_all (length (x ∷ xs) - 1) xs (omega arith) in
    ap (λ y. bytes y ∷ map bytes xs) (sym is) ∙ ap (λ ys. bytes a ∷ map bytes ys) (sym all)

-- where the first word is a value, it is there
value_first : (words : List (List ℕ)) (option : Setting) → is_value option (word_at words 0) ≡ true → words ≡ word_at words 0 ∷ drop 1 words
value_first [] option is = absurd (false≢true (sym (no_value option) ∙ is))
value_first (x ∷ words) option is = refl

-- The items are read up to a place, and the one there is a name: it names an option that those before it leave.
module _ {A : Type 0} (bytes : A → List ℕ) (xs : List A) (all : List Setting) (read : ℕ) (before behind : List A) (front : before ≡ take read xs) (back : behind ≡ drop read xs)
    (name : A) (some : 1 ≤ length behind) (is_first : name ≡ slice_index_or behind 0 name) (option : Setting) (is_named : named (bytes name) (open_among (map bytes before) all) ≡ Some option) where
  abbrev more : List (List ℕ)
  more = map bytes (take (length behind - 1) (drop 1 behind))

  next_name : drop read (map bytes xs) ≡ bytes name ∷ more
  next_name = drop-map bytes read xs ∙ ap (map bytes) (sym back) ∙ first_item bytes behind name some is_first

  names : named (bytes name) (open_among (take read (map bytes xs)) all) ≡ Some option
  names = ap (λ words. named (bytes name) (open_among words all)) (take-map bytes read xs ∙ ap (map bytes) (sym front)) ∙ is_named

  -- the word behind it is no value
  pub value_wrong : is_value option (word_at more 0) ≡ false → Fault (AreOptions (open_among (take read (map bytes xs)) all)) (drop read (map bytes xs)) 1
  value_wrong wrong = subst (λ words. Fault (AreOptions (open_among (take read (map bytes xs)) all)) words 1) (sym next_name)
      (wrong_value (open_among (take read (map bytes xs)) all) (bytes name) more option names wrong)

  -- it is one
  pub pair_read : ArePairs (take read (map bytes xs)) → is_value option (word_at more 0) ≡ true → Pair all (map bytes xs) read (bytes name) (word_at more 0) option
  pair_read pairs right =
      let next : drop read (map bytes xs) ≡ bytes name ∷ word_at more 0 ∷ drop 1 more = next_name ∙ ap (λ words. bytes name ∷ words) (value_first more option right) in
      record {
        pairs = pairs;
        next = next ∙ ap (λ rest. bytes name ∷ word_at more 0 ∷ rest) (sym (ap (drop 2) next) ∙ drop-drop 2 read (map bytes xs));
        is = names;
        reads = right;
      }
