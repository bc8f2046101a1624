-- The published steps of a dataset, as plain values.
use Rattle.std.specs.Prelude.{◌≡◌, ◌≢◌, ℕ, ◌+◌, Bool, true, false, nat_eq, List, [], ◌∷◌, length, map, All, get_or, slice_get, Option, Some, None}
use Rattle.std.specs.List.{range_with_len}
use Rattle.std.specs.Option.{option_map, option_map_or}
use Rattle.idx_outside.specs.Shape.{Shape}

-- what a function gives for each field, and for each block of the field
abbrev pub table_of : {A : Type 0} → Shape → (ℕ → ℕ → A) → List (List A)
table_of shape f = map (λ field. map (f field) (range_with_len 0 shape.blocks)) (range_with_len 0 (length shape.lengths))

-- what such a table has for a field and a block
abbrev pub entry_at : {A : Type 0} → A → List (List A) → ℕ → ℕ → A
entry_at other table field block = get_or (get_or table field []) block other

-- A published step: its time, which blocks it has, and, where they are known, the bytes of each block, by field and block.
pub record Post : Type 0 where
  pub time : ℕ
  pub has : List (List Bool)
  pub stored : Option (List (List (List ℕ)))

-- the post of a step of this shape, by what it tells
abbrev pub post_of : Shape → ℕ → (ℕ → ℕ → Bool) → Option (ℕ → ℕ → List ℕ) → Post
post_of shape time has stored =
    record { time = time; has = table_of shape has; stored = option_map (table_of shape) stored }

-- whether the step has the block of a field
abbrev pub has_at : Post → ℕ → ℕ → Bool
has_at post = entry_at false post.has

-- the bytes of the block of a field
abbrev pub bytes_at : List (List (List ℕ)) → ℕ → ℕ → List ℕ
bytes_at = entry_at []

-- no post of the board has the time
abbrev pub Lacks : ℕ → List Post → Type 0
Lacks time board = All (λ post. post.time ≢ time) board

-- the post of this number is of the step
pub record IsPostOf (board : List Post) (step number : ℕ) (post : Post) : Type 0 where
  pub at : slice_get board number ≡ Some post
  pub time : post.time ≡ step

-- the number behind the first post, where the rest has one; else that of the first post, where it will do
abbrev pub behind_first : Bool → Option ℕ → Option ℕ
behind_first will_do (Some number) = Some (number + 1)
behind_first true None = Some 0
behind_first false None = None

-- the number of the newest post of a time: the greatest place of a post that has it
abbrev pub newest : List Post → ℕ → Option ℕ
newest [] time = None
newest (post ∷ board) time = behind_first (nat_eq post.time time) (newest board time)

-- the post of this number is the newest of the step
pub record IsNewestOf (board : List Post) (step number : ℕ) (post : Post) : Type 0 where
  pub at : slice_get board number ≡ Some post
  pub time : post.time ≡ step
  pub newest_is : newest board step ≡ Some number

-- the post of this number is there, and no later one has its time
abbrev pub is_newest : List Post → ℕ → Bool
is_newest board number =
    option_map_or (λ post. option_map_or (nat_eq number) (newest board post.time) false) (slice_get board number) false
