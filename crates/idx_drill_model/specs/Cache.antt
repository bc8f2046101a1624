-- The cache of a drill whose questions come in order, coarsest first.
use Rattle.std.specs.Prelude.{◌≡◌, ℕ, ◌<◌, ◌≤◌, List, [], ◌∷◌, All}
use Rattle.idx_hall.specs.Posts.{Post}
use Rattle.idx_hall.specs.Hall.{HallValue, name_of}
use Rattle.idx_hall.specs.declared.block_name.BlockName.{BlockName}
use Rattle.idx_drill_model.specs.Drill.{drill_bits, drill_capacity}
use Rattle.idx_drill_model.specs.Blocks.{blocks_below, drill_key}

-- the board has one post, of time 0
pub record IsOnePost (board : List Post) : Type 0 where
  pub post : Post
  pub only : board ≡ post ∷ []
  pub time : post.time ≡ 0

-- a cached block of that post, of number below a limit
pub record IsBlockBelow (limit : ℕ) (pair : BlockName × List ℕ) : Type 0 where
  pub post : pair.0.post ≡ 0
  pub time : pair.0.key.time ≡ 0
  pub field : pair.0.key.field ≡ 0
  pub block : pair.0.key.block < limit

-- the cached blocks are block 0 alone
pub record IsFirstBlock (pairs : List (BlockName × List ℕ)) : Type 0 where
  pub bytes : List ℕ
  pub only : pairs ≡ (name_of 0 (drill_key 0), bytes) ∷ []

-- A hall before the question of a level: the drill's post is published, the cache has its room, and each cached block was needed
-- by a coarser level. Where block 0 alone was needed, it is cached.
pub record CacheAt (n level : ℕ) (h : HallValue) : Type 0 where
  pub board : IsOnePost h.board
  pub room : h.cache.cap ≡ drill_capacity
  pub cached : All (IsBlockBelow (blocks_below n level)) h.cache.pairs
  pub first : 1 ≤ level → level ≤ drill_bits n → IsFirstBlock h.cache.pairs
