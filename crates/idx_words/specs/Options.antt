-- The options of a command: pairs of a name and a value behind the fixed words, in any order, each option at most once.
use Rattle.std.specs.Prelude.{ℕ, Bool, true, false, ◌&&◌, if◌then◌else◌, nat_le, not, List, [], ◌∷◌, filter, find, Option, Some, None, IsTrue, codes}
use Rattle.std.specs.Option.{is_some, option_and_then, unwrap_or}
use Rattle.std.specs.Str.{bytes_eq}
use Rattle.idx_text.specs.Number.{number_of}
use Rattle.idx_rowmajor.specs.declared.layout.Layout.{Layout}
use Rattle.idx_rowmajor.specs.declared.layout.Layout.TheVariants.{Hz, Rows}
use Rattle.idx_words.specs.declared.setting.Setting.{Setting}
use Rattle.idx_words.specs.declared.setting.Setting.TheVariants as options
use Rattle.idx_words.specs.PathWord.{is_path}

-- the name of an option
abbrev pub name_of : Setting → List ℕ
name_of options.Ranks = codes "--ranks"
name_of options.Layout = codes "--layout"
name_of options.Cache = codes "--cache"
name_of options.Workers = codes "--workers"
name_of options.Links = codes "--links"
name_of options.Ingest = codes "--ingest"
name_of options.Raw = codes "--raw"

-- there is a number, from the least to the greatest
abbrev pub is_in : ℕ → ℕ → Option ℕ → Bool
is_in least most None = false
is_in least most (Some n) = nat_le least n && nat_le n most

-- the layout that a word names, if it does
abbrev pub layout_named : List ℕ → Option Layout
layout_named word = if bytes_eq word (codes "rows") then Some Rows else if bytes_eq word (codes "hz") then Some Hz else None

-- the word is a value of an option; the greatest number of links is the greatest number
abbrev pub is_value : Setting → List ℕ → Bool
is_value options.Ranks word = is_in 1 256 (number_of word)
is_value options.Layout word = is_some (layout_named word)
is_value options.Cache word = is_in 1 65536 (number_of word)
is_value options.Workers word = is_in 1 64 (number_of word)
is_value options.Links word = is_in 1 9999999999999999999 (number_of word)
is_value options.Ingest word = is_some (number_of word)
is_value options.Raw word = is_path word

-- the word is the option's name
abbrev pub is_name : List ℕ → Setting → Bool
is_name word option = bytes_eq word (name_of option)

-- the option that a word names, among these
abbrev pub named : List ℕ → List Setting → Option Setting
named word options = find (is_name word) options

-- the options that a word does not name
abbrev pub others : List ℕ → List Setting → List Setting
others word options = filter (λ option. not (is_name word option)) options

-- there is an option, and the word is a value of it
abbrev pub takes : Option Setting → List ℕ → Bool
takes None word = false
takes (Some option) word = is_value option word

-- The words are pairs: the name of one of these options and a value of it, and behind them pairs of the other options.
abbrev pub are_options : List Setting → List (List ℕ) → Bool
are_options options [] = true
are_options options (name ∷ []) = false
are_options options (name ∷ value ∷ words) = takes (named name options) value && are_options (others name options) words

-- the words are pairs of these options
abbrev pub AreOptions : List Setting → List (List ℕ) → Type 0
AreOptions options words = IsTrue (are_options options words)

-- the word that the words give an option, if they do
abbrev pub given : List (List ℕ) → Setting → Option (List ℕ)
given [] option = None
given (name ∷ []) option = None
given (name ∷ value ∷ words) option = if is_name name option then Some value else given words option

-- the number that they give it
abbrev pub number_given : List (List ℕ) → Setting → Option ℕ
number_given words option = option_and_then number_of (given words option)

-- how many ranks convert; 1 where the words do not say
abbrev pub ranks_of : List (List ℕ) → ℕ
ranks_of words = unwrap_or (number_given words options.Ranks) 1

-- the order of the samples of a block; hz where the words do not say
abbrev pub layout_of : List (List ℕ) → Layout
layout_of words = unwrap_or (option_and_then layout_named (given words options.Layout)) Hz

-- how many blocks a cache keeps at most; 64 where the words do not say
abbrev pub cache_of : List (List ℕ) → ℕ
cache_of words = unwrap_or (number_given words options.Cache) 64

-- how many workers serve; 1 where the words do not say
abbrev pub workers_of : List (List ℕ) → ℕ
workers_of words = unwrap_or (number_given words options.Workers) 1

-- The options of each command.
abbrev pub convert_options : List Setting
convert_options = options.Ranks ∷ options.Layout ∷ []

abbrev pub query_options : List Setting
query_options = options.Cache ∷ []

abbrev pub serve_options : List Setting
serve_options = options.Cache ∷ options.Workers ∷ options.Links ∷ options.Ingest ∷ options.Raw ∷ []
