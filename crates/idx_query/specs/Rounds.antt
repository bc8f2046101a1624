-- What the rounds of an answer find and leave in a hall, and how often they hold it.
use Rattle.std.specs.Prelude.{◌≡◌, ℕ, zero, suc, ◌+◌, List, [], ◌∷◌, ◌++◌, map, All, Option, Some, None}
use Rattle.idx_header.specs.Header.{HeaderValue}
use Rattle.idx_hall.specs.declared.key.Key.{Key}
use Rattle.idx_hall.specs.Posts.{Post, bytes_at}
use Rattle.idx_hall.specs.Hall.{HallValue, IsBlockOf, after_fill, after_look, named, noted}
use Rattle.idx_plan.specs.Rounds.{rounds}
use Rattle.idx_plan.specs.declared.ask.Ask.{Ask}

-- of some keys those of which a look noted nothing
abbrev pub missed : List Key → List (Option (List ℕ)) → List Key
missed (key ∷ keys) (None ∷ found) = key ∷ missed keys found
missed (key ∷ keys) (Some bytes ∷ found) = missed keys found
missed _ _ = []

-- the keys of a round of which nothing is cached of the post of this number
abbrev pub missed_in : ℕ → List Key → HallValue → List Key
missed_in number keys h = missed keys (noted (named number keys) h.cache.pairs)

-- keys with the bytes of their blocks
abbrev pub with_bytes : List (List (List ℕ)) → List Key → List (Key × List ℕ)
with_bytes stored keys = map (λ key. (key, bytes_at stored key.field key.block)) keys

-- what a round leaves: its keys are looked for, and then what was missing is put, rising
abbrev pub after_round : ℕ → List (List (List ℕ)) → List Key → HallValue → HallValue
after_round number stored keys h = after_fill number (with_bytes stored (missed_in number keys h)) (after_look number keys h)

-- what rounds leave, one after another
abbrev pub after_rounds : ℕ → List (List (List ℕ)) → List (List Key) → HallValue → HallValue
after_rounds number stored [] h = h
after_rounds number stored (keys ∷ more) h = after_rounds number stored more (after_round number stored keys h)

-- what an answer leaves, out of the post of this number, which stores these blocks
abbrev pub after_answer : HeaderValue → Ask → ℕ → List (List (List ℕ)) → HallValue → HallValue
after_answer h ask number stored hall = after_rounds number stored (rounds h ask) hall

-- how often a round holds the hall: to look, and once more to fill where these keys are missing
abbrev pub holds_for : List Key → ℕ
holds_for [] = 1
holds_for (key ∷ keys) = 2

-- how often a round in which so many blocks were fetched holds the hall
abbrev pub holds_by : ℕ → ℕ
holds_by zero = 1
holds_by (suc n) = 2

-- A round, also where the bytes of the blocks are not known: its keys are looked for, and then blocks of the post are put, for
-- exactly the keys of which nothing was cached.
pub record IsRound (post : Post) (number : ℕ) (keys : List Key) (before after : HallValue) : Type 0 where
  pub pairs : List (Key × List ℕ)
  pub of_missed : map (λ pair. pair.0) pairs ≡ missed_in number keys before
  pub blocks : All (IsBlockOf before.shape post) pairs
  pub leaves : after ≡ after_fill number pairs (after_look number keys before)

-- Rounds one after another, each in the hall that those before it left: `missing` are all keys of which nothing was cached, and
-- so often the hall was held.
abbrev pub AreRounds : Post → ℕ → List (List Key) → HallValue → HallValue → List Key → ℕ → Type 0
AreRounds post number [] before after missing holds = (after ≡ before) × (missing ≡ []) × (holds ≡ 0)
AreRounds post number (keys ∷ more) before after missing holds =
    (between : HallValue) × (rest : List Key) × (later : ℕ)
    × IsRound post number keys before between
    × (missing ≡ missed_in number keys before ++ rest)
    × (holds ≡ holds_for (missed_in number keys before) + later)
    × AreRounds post number more between after rest later
