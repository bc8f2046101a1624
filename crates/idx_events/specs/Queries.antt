-- What the events of asking need of a query, and what they make of it.
use Rattle.std.specs.Prelude.{◌≡◌, ℕ, ◌+◌, Bool, false, not, ◌&&◌, nat_eq, nat_lt, is_some, is_none, List, [], ◌∷◌, ◌++◌, length, map, take, filter, get_or, slice_get, Option, Some, None}
use Rattle.std.specs.Option.{option_map_or, option_or, unwrap_or}
use Rattle.idx_events.specs.Lists.{has, joined}
use Rattle.idx_hall.specs.Posts.{Post, IsNewestOf, bytes_at, newest}
use Rattle.idx_hall.specs.Hall.{HallValue, named, noted}
use Rattle.idx_hall.specs.declared.key.Key.{Key}
use Rattle.idx_plan.specs.Needed.{key_of}
use Rattle.idx_events.specs.Setting.{Setting}
use Rattle.idx_events.specs.World.{Query, Round, World, loaded_in}

-- the post of a question: that which was noted in its first round, or, before that, the newest of its timestep
abbrev pub post_for : List Post → Query → Option ℕ
post_for board x = option_or x.post (newest board x.ask.time)

-- the post that the question of a number has noted
abbrev pub post_noted : ℕ → World → Option ℕ
post_noted number w = option_map_or (λ x. x.post) (slice_get w.queries number) None

-- what was noted is the newest post that the timestep has on the board
pub record NotesNewest (board : List Post) (time : ℕ) (noted : Option ℕ) : Type 0 where
  pub number : ℕ
  pub post : Post
  pub is : IsNewestOf board time number post
  pub noted_is : noted ≡ Some number

-- what is found of some keys in a post: nothing where there is no post
abbrev pub found_in : Option ℕ → List Key → HallValue → List (Option (List ℕ))
found_in None keys h = []
found_in (Some number) keys h = noted (named number keys) h.cache.pairs

-- the blocks that were found, with their bytes, and those that were not
abbrev pub hits : List ℕ → List (Option (List ℕ)) → List (ℕ × List ℕ)
hits (block ∷ blocks) (None ∷ found) = hits blocks found
hits (block ∷ blocks) (Some bytes ∷ found) = (block, bytes) ∷ hits blocks found
hits _ _ = []

abbrev pub misses : List ℕ → List (Option (List ℕ)) → List ℕ
misses (block ∷ blocks) (None ∷ found) = block ∷ misses blocks found
misses (block ∷ blocks) (Some bytes ∷ found) = misses blocks found
misses _ _ = []

-- where nothing is missing the round has ended, else it has begun
abbrev pub ended_after : List ℕ → ℕ → ℕ
ended_after [] n = n + 1
ended_after (block ∷ blocks) n = n

abbrev pub round_after : List ℕ → Option Round
round_after [] = None
round_after (block ∷ blocks) = Some (record { missing = block ∷ blocks; loaded = [] })

abbrev pub post_at : List Post → Query → Option Post
post_at board x = option_map_or (slice_get board) x.post None

-- a post's bytes of the block of a field
abbrev pub bytes_in : Post → ℕ → ℕ → List ℕ
bytes_in post = bytes_at (unwrap_or post.stored [])

-- the bytes of a block in the question's post
abbrev pub content_of : List Post → Query → ℕ → List ℕ
content_of board x block = option_map_or (λ p. bytes_in p x.ask.field block) (post_at board x) []

abbrev pub is_next : ℕ → Round → Bool
is_next block r = option_map_or (nat_eq block) (slice_get r.missing (length r.loaded)) false

abbrev pub is_loaded : Round → Bool
is_loaded r = nat_eq (length r.loaded) (length r.missing)

abbrev pub can_read : ℕ → Query → Bool
can_read block x = option_map_or (is_next block) x.round false

abbrev pub can_fill : Query → Bool
can_fill x = option_map_or is_loaded x.round false

abbrev pub with_block : ℕ × List ℕ → Option Round → Option Round
with_block pair None = None
with_block pair (Some r) = Some (record { missing = r.missing; loaded = r.loaded ++ pair ∷ [] })

abbrev pub read : List Post → ℕ → Query → Query
read board block x = record x { round = with_block (block, content_of board x block) x.round }

-- the loaded blocks as the cache keeps them
abbrev pub loaded_pairs : Query → List (Key × List ℕ)
loaded_pairs x = map (λ pair. (key_of x.ask pair.0, pair.1)) (loaded_in x.round)

abbrev pub fill : Query → Query
fill x = record x { ended = x.ended + 1; round = None; kept = x.kept ++ loaded_in x.round }

module _ (s : Setting) where
  -- the blocks of the round that is next or that the query is in
  abbrev pub round_blocks : Query → List ℕ
  round_blocks x = get_or (s.rounds x.ask) x.ended []

  abbrev pub round_keys : Query → List Key
  round_keys x = map (key_of x.ask) (round_blocks x)

  abbrev pub can_look : List Post → Query → Bool
  can_look board x = is_none x.answer && (is_none x.round && (nat_lt x.ended (length (s.rounds x.ask)) && is_some (newest board x.ask.time)))

  abbrev pub can_answer : Query → Bool
  can_answer x = is_none x.answer && nat_eq x.ended (length (s.rounds x.ask))

  abbrev pub look_by : List Post → List ℕ → List (ℕ × List ℕ) → Query → Query
  look_by board missing found x = record x {
    post = post_for board x;
    ended = ended_after missing x.ended;
    round = round_after missing;
    kept = x.kept ++ found;
  }

  abbrev pub look : HallValue → Query → Query
  look h x =
      look_by h.board (misses (round_blocks x) (found_in (post_for h.board x) (round_keys x) h))
      (hits (round_blocks x) (found_in (post_for h.board x) (round_keys x) h)) x

  abbrev pub answered : Query → Query
  answered x = record x { answer = Some (s.put_together x.ask x.kept) }

  -- the blocks that a query has to hold: all of its ended rounds, and in a round the found and the loaded ones
  abbrev pub due_in : List ℕ → Option Round → List ℕ
  due_in blocks None = []
  due_in blocks (Some r) = filter (λ block. not (has block r.missing)) blocks ++ map (λ pair. pair.0) r.loaded

  abbrev pub due : Query → List ℕ
  due x = joined (take x.ended (s.rounds x.ask)) ++ due_in (round_blocks x) x.round
