-- The words of the command `serve`: DATASET ADDRESS, and options.
use Rattle.std.specs.Prelude.{◌≡◌, ℕ, ◌≤◌, List, ◌∷◌, Option, IfSome, IsTrue}
use Rattle.std.specs.Option.{is_some, option_map, option_zip}
use Rattle.idx_words.specs.declared.setting.Setting.TheVariants as options
use Rattle.idx_words.specs.Options.{AreOptions, cache_of, given, number_given, serve_options, workers_of}
use Rattle.idx_words.specs.PathWord.{is_path}
use Rattle.idx_words.specs.QueryGrammar.{IsName}
use Rattle.idx_words.specs.ServeValue.{IngestValue, ServeValue}

-- the words are options of `serve`, and give both the step that is published and its raw volume, or neither
pub record AreServeOptions (words : List (List ℕ)) : Type 0 where
  pub pairs : AreOptions serve_options words
  pub both : is_some (given words options.Ingest) ≡ is_some (given words options.Raw)

-- the step that is published and its raw volume, where the words give both
abbrev pub ingest_of : List (List ℕ) → Option IngestValue
ingest_of words =
    option_map (λ both. record { step = both.0; raw = both.1 }) (option_zip (number_given words options.Ingest) (given words options.Raw))

-- the words are the options, which give these values
pub record SpellsServe (words : List (List ℕ)) (c : ServeValue) : Type 0 where
  pub pairs : AreServeOptions words
  pub cache : c.cache ≡ cache_of words
  pub workers : c.workers ≡ workers_of words
  pub links : c.links ≡ number_given words options.Links
  pub ingest : c.ingest ≡ ingest_of words

-- the words behind the command are those of `serve`, which stand for these values
abbrev pub AreServeWords : List (List ℕ) → ServeValue → Type 0
AreServeWords (dataset ∷ address ∷ options) c = IsName dataset c.dataset × IsName address c.address × SpellsServe options c
AreServeWords _ c = ⊥

-- the words behind the command are those of `serve`
abbrev pub AreSomeServeWords : List (List ℕ) → Type 0
AreSomeServeWords words = (c : ServeValue) × AreServeWords words c

-- what is so of the values
pub record IsSoundServe (c : ServeValue) : Type 0 where
  pub some_blocks : 1 ≤ c.cache
  pub few_blocks : c.cache ≤ 65536
  pub some_workers : 1 ≤ c.workers
  pub few_workers : c.workers ≤ 64
  pub some_links : IfSome c.links (λ links. 1 ≤ links)
  pub raw_path : IfSome c.ingest (λ ingest. IsTrue (is_path ingest.raw))
