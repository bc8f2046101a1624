-- What the events of writing need of a volume, and what they make of it.
use Rattle.std.specs.Prelude.{ℕ, Bool, not, cond, ◌&&◌, nat_eq, nat_lt, is_some, List, [], ◌∷◌, ◌++◌, length, filter, map, Some}
use Rattle.std.specs.List.{list_any, list_all, filter_map, range_with_len}
use Rattle.idx_events.specs.Lists.{has, has_pair}
use Rattle.idx_hall.specs.Posts.{Post}
use Rattle.idx_events.specs.Setting.{Setting, table, step_files, post_of_files}
use Rattle.idx_events.specs.World.{Slot, Volume, is_staged, is_published}
use Rattle.idx_events.specs.declared.phase.Phase.TheVariants.{Published, Abandoned}

-- the volume is that of a timestep's revision
abbrev pub is_of : ℕ → ℕ → Volume → Bool
is_of time revision v = nat_eq v.time time && nat_eq v.revision revision

-- it is published, and a later revision of the timestep
abbrev pub is_later : ℕ → ℕ → Volume → Bool
is_later time revision v = is_published v.phase && (nat_eq v.time time && nat_lt revision v.revision)

-- the post is of the timestep
abbrev pub is_post_of : ℕ → Post → Bool
is_post_of time p = nat_eq p.time time

-- the volume is a published one of the timestep
abbrev pub is_published_of : ℕ → Volume → Bool
is_published_of time v = is_published v.phase && nat_eq v.time time

-- how many of these are the number
abbrev pub count_of : ℕ → List ℕ → ℕ
count_of n xs = length (filter (nat_eq n) xs)

-- the revision of each timestep, in order: how often it came before, among these and in the list
abbrev pub revisions : List ℕ → List ℕ → List ℕ
revisions before [] = []
revisions before (time ∷ times) = count_of time before ∷ revisions (time ∷ before) times

-- some samples of a row are set: those whose addresses are mine
abbrev pub put_row : (ℕ → Bool) → (ℕ → List ℕ) → List ℕ → List (List ℕ) → List (List ℕ)
put_row mine new (a ∷ addresses) (x ∷ xs) = cond (mine a) (new a) x ∷ put_row mine new addresses xs
put_row mine new _ xs = xs

-- the same in the row of each field
abbrev pub put_rows : (ℕ → Bool) → (ℕ → ℕ → List ℕ) → List ℕ → List ℕ → List (List (List ℕ)) → List (List (List ℕ))
put_rows mine new addresses (f ∷ fields) (row ∷ rows) = put_row mine (new f) addresses row ∷ put_rows mine new addresses fields rows
put_rows mine new addresses _ rows = rows

-- the sealed files, rising
abbrev pub sealed_files : List Slot → List (List ℕ × List ℕ)
sealed_files slots = filter_map (λ slot. slot.sealed) slots

module _ (s : Setting) where
  -- the rank is one of the piece's
  abbrev pub is_legal : ℕ → ℕ → Bool
  is_legal rank piece = has rank (s.ranks piece)

  abbrev pub all_gave : List (ℕ × ℕ) → ℕ → Bool
  all_gave given piece = list_all (λ rank. has_pair (rank, piece) given) (s.ranks piece)

  -- each piece with a point in the file was shipped to it
  abbrev pub all_shipped : List (ℕ × ℕ) → ℕ → Bool
  all_shipped shipped file = list_all (λ piece. has_pair (piece, file) shipped) (s.pieces_in file)

  abbrev pub can_give : ℕ → ℕ → Volume → Bool
  can_give rank piece v = is_staged v.phase && (is_legal rank piece && not (has_pair (rank, piece) v.given))

  abbrev pub can_ship : ℕ → ℕ → Volume → Bool
  can_ship piece file v = is_staged v.phase && (has file s.files && (all_gave v.given piece && (has piece (s.pieces_in file) &&
      not (has_pair (piece, file) v.shipped))))

  abbrev pub can_write : ℕ → Volume → Bool
  can_write file v = is_staged v.phase && (has file s.files && (all_shipped v.shipped file &&
      not (list_any (λ slot. nat_eq slot.file file && is_some slot.sealed) v.slots)))

  abbrev pub can_publish : Volume → Bool
  can_publish v = is_staged v.phase && list_all (λ slot. is_some slot.sealed) v.slots

  abbrev pub can_abandon : Volume → Bool
  can_abandon v = is_staged v.phase

  abbrev pub give : ℕ → ℕ → Volume → Volume
  give rank piece v = record v { given = v.given ++ (rank, piece) ∷ [] }

  -- the dock gets the piece's samples at their addresses
  abbrev pub delivered : List ℕ → ℕ → ℕ → List (List (List ℕ)) → List (List (List ℕ))
  delivered raw piece file dock =
      put_rows (λ address. nat_eq (s.piece_at address) piece) (s.sample raw) (s.addresses file) (range_with_len 0 s.fields) dock

  abbrev pub ship_slot : List ℕ → ℕ → ℕ → Slot → Slot
  ship_slot raw piece file slot = cond (nat_eq slot.file file) (record slot { dock = delivered raw piece file slot.dock }) slot

  abbrev pub ship : ℕ → ℕ → Volume → Volume
  ship piece file v = record v { shipped = v.shipped ++ (piece, file) ∷ []; slots = map (ship_slot v.raw piece file) v.slots }

  abbrev pub seal_slot : ℕ → ℕ → ℕ → Slot → Slot
  seal_slot time revision file slot =
      cond (nat_eq slot.file file) (record slot { sealed = Some (s.name time revision file, s.lay file slot.dock) }) slot

  abbrev pub seal : ℕ → Volume → Volume
  seal file v = record v { slots = map (seal_slot v.time v.revision file) v.slots }

  abbrev pub publish : Volume → Volume
  publish v = record v { phase = Published }

  abbrev pub abandon : Volume → Volume
  abandon v = record v { phase = Abandoned; slots = [] }

  -- the post of the files that were sealed, and the post of the volume's files
  abbrev pub post_of_sealed : Volume → Post
  post_of_sealed v = post_of_files s v.time v.revision (sealed_files v.slots)

  abbrev pub post_of : Volume → Post
  post_of v = post_of_files s v.time v.revision (step_files s v.time v.revision v.raw)

  -- the dock of a file after these shipments: the samples of the shipped pieces at their addresses, zeros elsewhere
  abbrev pub dock_of : List ℕ → List (ℕ × ℕ) → ℕ → List (List (List ℕ))
  dock_of raw shipped file =
      table s file (λ field address. cond (has_pair (s.piece_at address, file) shipped) (s.sample raw field address) (s.zero field))
