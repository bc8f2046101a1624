-- The events of a step that is written whole, and of questions of one round, as lists.
use Rattle.std.specs.Prelude.{ℕ, ◌+◌, Bool, List, [], ◌∷◌, ◌++◌, map, filter}
use Rattle.std.specs.List.{flat_map, range_with_len}
use Rattle.idx_plan.specs.declared.ask.Ask.{Ask}
use Rattle.idx_events.specs.Lists.{has}
use Rattle.idx_events.specs.Setting.{Setting}
use Rattle.idx_events.specs.Volumes.{is_legal}
use Rattle.idx_events.specs.declared.event.Event.{Event}
use Rattle.idx_events.specs.declared.event.Event.TheVariants.{Give, Ship, Write, Publish, Look, Read, Fill, Answer}

-- the pairs of a first and a second number that pass a test, by the first and then by the second
abbrev pub pairs_of : (ℕ → ℕ → Bool) → List ℕ → List ℕ → List (ℕ × ℕ)
pairs_of test firsts seconds = flat_map (λ a. map (λ b. (a, b)) (filter (test a) seconds)) firsts

module _ (s : Setting) where
  -- the ranks below a number with those of the pieces that they have a part of
  abbrev pub parts : List ℕ → ℕ → List (ℕ × ℕ)
  parts pieces ranks = pairs_of (is_legal s) (range_with_len 0 ranks) pieces

  -- the pieces with the files that they have a point in
  abbrev pub shipments : List ℕ → List (ℕ × ℕ)
  shipments pieces = pairs_of (λ piece file. has piece (s.pieces_in file)) pieces s.files

  module _ (time revision : ℕ) where
    -- each rank gives its parts
    abbrev pub gives : List ℕ → ℕ → List Event
    gives pieces ranks = map (λ part. Give time revision part.0 part.1) (parts pieces ranks)

    -- each piece is shipped to its files
    abbrev pub ships : List ℕ → List Event
    ships pieces = map (λ shipment. Ship time revision shipment.0 shipment.1) (shipments pieces)

    -- each file is written
    abbrev pub writes : List Event
    writes = map (λ file. Write time revision file) s.files

    -- a revision is given, shipped, written and published
    abbrev pub written : List ℕ → ℕ → List Event
    written pieces ranks = gives pieces ranks ++ (ships pieces ++ (writes ++ Publish time revision ∷ []))

-- the missing blocks are read and put into the cache, if there are any
abbrev pub loads : ℕ → List ℕ → List Event
loads query [] = []
loads query (block ∷ missing) = map (λ b. Read query b) (block ∷ missing) ++ Fill query ∷ []

-- a question of one round, of whose blocks these are not found
abbrev pub asked : ℕ → List ℕ → List Event
asked query missing = Look query ∷ (loads query missing ++ Answer query ∷ [])

-- A question of one round as it is asked: the number of its post, the blocks of its round, and those of them that are not found.
pub record Asking : Type 0 where
  pub ask : Ask
  pub post : ℕ
  pub blocks : List ℕ
  pub missing : List ℕ

-- questions one after another, the first of them with this number
abbrev pub all_asked : ℕ → List Asking → List Event
all_asked query [] = []
all_asked query (x ∷ more) = asked query x.missing ++ all_asked (query + 1) more
