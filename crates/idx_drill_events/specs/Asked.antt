-- What a question of one round finds, loads and leaves, and many of them.
use Rattle.std.specs.Prelude.{◌≡◌, ℕ, List, [], ◌∷◌, ◌++◌, map, slice_get, slice_set, Option, Some, None}
use Rattle.std.specs.Option.{option_map_or}
use Rattle.idx_hall.specs.Posts.{Post, newest}
use Rattle.idx_hall.specs.Hall.{HallValue, after_look, after_fill}
use Rattle.idx_hall.specs.declared.key.Key.{Key}
use Rattle.idx_plan.specs.Needed.{key_of}
use Rattle.idx_events.specs.Setting.{Setting}
use Rattle.idx_events.specs.World.{World, Query}
use Rattle.idx_events.specs.Queries.{bytes_in, found_in, hits, misses}
use Rattle.idx_drill_events.specs.Lists.{Asking}

-- the keys of the blocks of its round
abbrev pub keys_of : Asking → List Key
keys_of x = map (key_of x.ask) x.blocks

-- what is found of them, in order
abbrev pub found_by : Asking → HallValue → List (Option (List ℕ))
found_by x h = found_in (Some x.post) (keys_of x) h

-- the bytes of a block in its post
abbrev pub block_by : Asking → List Post → ℕ → List ℕ
block_by x board block = option_map_or (λ post. bytes_in post x.ask.field block) (slice_get board x.post) []

-- the missing blocks with their bytes, and the same as the cache keeps them
abbrev pub loaded_by : Asking → List Post → List (ℕ × List ℕ)
loaded_by x board = map (λ block. (block, block_by x board block)) x.missing

abbrev pub pairs_by : Asking → List Post → List (Key × List ℕ)
pairs_by x board = map (λ block. (key_of x.ask block, block_by x board block)) x.missing

-- a hall after the question: its blocks that are cached come to the front, and those that were missing are put
abbrev pub hall_after : Asking → HallValue → HallValue
hall_after x h = after_fill x.post (pairs_by x h.board) (after_look x.post (keys_of x) h)

-- all blocks that it holds then, the found ones first
abbrev pub kept_by : Asking → HallValue → List (ℕ × List ℕ)
kept_by x h = hits x.blocks (found_by x h) ++ loaded_by x h.board

-- a hall after questions one after another
abbrev pub hall_after_all : List Asking → HallValue → HallValue
hall_after_all [] h = h
hall_after_all (x ∷ more) h = hall_after_all more (hall_after x h)

module _ (s : Setting) where
  -- the question as it is answered
  abbrev pub query_after : Asking → HallValue → Query
  query_after x h = record {
    ask = x.ask;
    post = Some x.post;
    ended = 1;
    round = None;
    kept = kept_by x h;
    answer = Some (s.put_together x.ask (kept_by x h));
  }

  -- questions as they are answered one after another
  abbrev pub queries_after : List Asking → HallValue → List Query
  queries_after [] h = []
  queries_after (x ∷ more) h = query_after x h ∷ queries_after more (hall_after x h)

  -- a world after a question, and after questions that stand behind others
  abbrev pub with_asked : ℕ → Asking → World → World
  with_asked query x w = record w { hall = hall_after x w.hall; queries = slice_set w.queries query (query_after x w.hall) }

  abbrev pub with_all_asked : List Query → List Asking → World → World
  with_all_asked before xs w = record w { hall = hall_after_all xs w.hall; queries = before ++ queries_after xs w.hall }

  -- its post is the newest of its timestep, it has one round, of these blocks, and these of them are not found in the hall
  pub record IsAsked (h : HallValue) (x : Asking) : Type 0 where
    pub post : newest h.board x.ask.time ≡ Some x.post
    pub rounds : s.rounds x.ask ≡ x.blocks ∷ []
    pub missing : x.missing ≡ misses x.blocks (found_by x h)

  -- so it is of each, in the hall that those before it leave
  abbrev pub AreAsked : HallValue → List Asking → Type 0
  AreAsked h [] = Unit {0}
  AreAsked h (x ∷ more) = IsAsked h x × AreAsked (hall_after x h) more
