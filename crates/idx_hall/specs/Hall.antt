-- The published steps and the cache of their blocks: what a hall is, what holds of it, and what its calls find and leave.
use Rattle.std.specs.Prelude.{◌≡◌, ℕ, ◌<◌, Bool, ◌&&◌, not, nat_eq, if◌then◌else◌, List, [], ◌∷◌, ◌++◌, length, map, filter, slice_index, All, Option, IfSome}
use Rattle.idx_outside.specs.Shape.{Shape}
use Rattle.idx_cache.specs.Cached.{Cached, cached, found, raised, raise_all, put_all, kept_after_evict, IsBounded}
use Rattle.idx_hall.specs.Posts.{Post, IsNewestOf, bytes_at, is_newest}
use Rattle.idx_hall.specs.declared.key.Key.{Key}
use Rattle.idx_hall.specs.declared.block_name.BlockName.{BlockName}

-- two keys are the same
abbrev pub key_eq : Key → Key → Bool
key_eq a b = nat_eq a.time b.time && (nat_eq a.field b.field && nat_eq a.block b.block)

-- two names of blocks are the same: those of one key in one post
abbrev pub name_eq : BlockName → BlockName → Bool
name_eq a b = nat_eq a.post b.post && key_eq a.key b.key

-- the block of a key in the post of a number
abbrev pub name_of : ℕ → Key → BlockName
name_of number key = record { post = number; key = key }

-- the same of keys, and of keys with their blocks
abbrev pub named : ℕ → List Key → List BlockName
named number keys = map (name_of number) keys

abbrev pub named_pairs : ℕ → List (Key × List ℕ) → List (BlockName × List ℕ)
named_pairs number pairs = map (λ pair. (name_of number pair.0, pair.1)) pairs

-- A hall as its caller sees it: the shape of the steps, the published steps by their numbers, and the cached blocks, the most
-- recently used first.
pub record HallValue : Type 0 where
  pub shape : Shape
  pub board : List Post
  pub cache : Cached BlockName (List ℕ)

abbrev pub hall : Shape → List Post → Cached BlockName (List ℕ) → HallValue
hall shape board cache = record { shape = shape; board = board; cache = cache }

-- the bytes are the block of this key in a post of this shape
pub record IsBlockOf (shape : Shape) (post : Post) (pair : Key × List ℕ) : Type 0 where
  pub time : pair.0.time ≡ post.time
  pub field : pair.0.field < length shape.lengths
  pub block : pair.0.block < shape.blocks
  pub many : length pair.1 ≡ slice_index shape.lengths pair.0.field
  pub stored : IfSome post.stored (λ stored. pair.1 ≡ bytes_at stored pair.0.field pair.0.block)

-- the bytes are the block of this name, and its post is the newest of the key's time
pub record IsPublished (shape : Shape) (board : List Post) (pair : BlockName × List ℕ) : Type 0 where
  pub post : Post
  pub at : IsNewestOf board pair.0.key.time pair.0.post post
  pub is : IsBlockOf shape post (pair.0.key, pair.1)

-- What is true of every hall: no two cached blocks have one name, there are at most as many as the capacity, and each is the
-- published block of the newest post of its time.
pub record HallOk (h : HallValue) : Type 0 where
  pub bounded : IsBounded name_eq h.cache
  pub blocks : All (IsPublished h.shape h.board) h.cache.pairs

-- What a look notes: for each name in order the bytes of its pair, which goes to the front, or nothing where there is none.
abbrev pub noted : List BlockName → List (BlockName × List ℕ) → List (Option (List ℕ))
noted [] pairs = []
noted (name ∷ names) pairs = found name_eq name pairs ∷ noted names (raised name_eq name pairs)

-- a hall with other cached blocks
abbrev pub with_pairs : HallValue → List (BlockName × List ℕ) → HallValue
with_pairs h pairs = hall h.shape h.board (cached pairs h.cache.cap)

-- the cached blocks of other times
abbrev pub of_other_times : ℕ → List (BlockName × List ℕ) → List (BlockName × List ℕ)
of_other_times time pairs = filter (λ pair. not (nat_eq pair.0.key.time time)) pairs

-- with one post more, and without the cached blocks of its time
abbrev pub after_publish : Post → HallValue → HallValue
after_publish post h = hall h.shape (h.board ++ post ∷ []) (cached (of_other_times post.time h.cache.pairs) h.cache.cap)

-- with each of the keys that is cached of the post of this number moved to the front, in order
abbrev pub after_look : ℕ → List Key → HallValue → HallValue
after_look number keys h = with_pairs h (raise_all name_eq (named number keys) h.cache.pairs)

-- with each of the pairs put, in order, where the post of this number is the newest of its time; else as it was
abbrev pub after_fill : ℕ → List (Key × List ℕ) → HallValue → HallValue
after_fill number pairs h =
    if is_newest h.board number then with_pairs h (put_all name_eq h.cache.cap (named_pairs number pairs) h.cache.pairs) else h

-- how many of so many pairs are stale: all, where the post of this number is not the newest of its time
abbrev pub stale_of : ℕ → ℕ → HallValue → ℕ
stale_of number many h = if is_newest h.board number then 0 else many

-- without the last n cached blocks, or without any
abbrev pub after_evict : ℕ → HallValue → HallValue
after_evict n h = with_pairs h (kept_after_evict n h.cache.pairs)
