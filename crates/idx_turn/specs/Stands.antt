-- What a value that is taken in turn stands for, and what may be given back in its place.
use Rattle.std.specs.Prelude.{◌≡◌, ℕ, Bool, false, List, ◌++◌, Option, Some, None}
use Rattle.idx_outside.specs.Shape.{Shape}
use Rattle.idx_outside.specs.Cause.{MadeReads}
use Rattle.idx_hall.specs.Posts.{Post}

-- the second list is the first with more behind it, or with nothing
pub record Begins {A : Type 0} (front whole : List A) : Type 0 where
  pub rest : List A
  pub is : whole ≡ front ++ rest

-- a shape, how many blocks are kept at most, and a list of posts
pub record Stand : Type 0 where
  pub shape : Shape
  pub capacity : ℕ
  pub posts : List Post

-- the three together
abbrev pub stand : Shape → ℕ → List Post → Stand
stand shape capacity posts = record { shape = shape; capacity = capacity; posts = posts }

-- what comes back has the shape that went out, keeps as many blocks, and its list begins with the one that went out; it is
-- that list where nothing may be added
pub record MayReturn (was : Stand) (may_add : Bool) (back : Stand) : Type 0 where
  pub shape : back.shape ≡ was.shape
  pub capacity : back.capacity ≡ was.capacity
  pub begins : Begins was.posts back.posts
  pub same : may_add ≡ false → back.posts ≡ was.posts

-- something is out, and this may come back for it
abbrev pub MayGive : Option Stand → Bool → Stand → Type 0
MayGive None may_add back = ⊥
MayGive (Some was) may_add back = MayReturn was may_add back

-- the value was taken so many times, where the times are counted modulo 2^64, as reads are
abbrev pub MadeHolds : ℕ → ℕ → ℕ → Type 0
MadeHolds before after holds = MadeReads before after holds
