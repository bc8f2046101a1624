-- A small hall, for worked values and tests.
use Rattle.std.specs.Prelude.{◌≡◌, ℕ, List, [], ◌∷◌, None, true, nat_eq}
use Rattle.idx_outside.specs.Shape.{Shape}
use Rattle.idx_cache.specs.Cached.{cached}
use Rattle.idx_hall.specs.Posts.{Post, post_of}
use Rattle.idx_hall.specs.Hall.{HallValue, hall, name_of}
use Rattle.idx_hall.specs.declared.key.Key.{Key}
use Rattle.idx_hall.specs.declared.block_name.BlockName.{BlockName}

-- two blocks of one field, each of two bytes
abbrev pub two_blocks : Shape
two_blocks = record { blocks = 2; lengths = 2 ∷ [] }

-- the key of a block of field 0
abbrev pub key_at : ℕ → ℕ → Key
key_at step block = record { time = step; field = 0; block = block }

-- a step of two blocks that has block 0 alone, and tells no bytes
abbrev pub half_post : ℕ → Post
half_post step = post_of two_blocks step (λ field block. nat_eq block 0) None

-- the name of such a block in the post of this number
abbrev pub block_at : ℕ → ℕ → ℕ → BlockName
block_at number step block = name_of number (key_at step block)

-- the step of time 7, and these cached blocks of at most two
abbrev pub one_step : List (BlockName × List ℕ) → HallValue
one_step pairs = hall two_blocks (half_post 7 ∷ []) (cached pairs 2)

-- the steps of the times 7, 9 and 7 again
abbrev pub posts_again : List Post
posts_again = half_post 7 ∷ half_post 9 ∷ half_post 7 ∷ []

-- these three steps, and these cached blocks of at most two
abbrev pub step_again : List (BlockName × List ℕ) → HallValue
step_again pairs = hall two_blocks posts_again (cached pairs 2)

-- six blocks of one field, each of one byte
abbrev pub six_blocks : Shape
six_blocks = record { blocks = 6; lengths = 1 ∷ [] }

-- the step of time 0 that has all of its six blocks
abbrev pub full_post : Post
full_post = post_of six_blocks 0 (λ field block. true) None

-- what is true of a hall whose only step is that one
pub record HasOneStep (h : HallValue) : Type 0 where
  pub shape : h.shape ≡ six_blocks
  pub board : h.board ≡ full_post ∷ []

-- what is true of a hall where it was published twice, and no other step
pub record HasTwoSteps (h : HallValue) : Type 0 where
  pub shape : h.shape ≡ six_blocks
  pub board : h.board ≡ full_post ∷ full_post ∷ []
