-- The steps of a dataset that stand: their posts, the first faulty row of their files, and the reads of their tables.
use Rattle.std.specs.Prelude.{◌≡◌, ◌⊎◌, ℕ, ◌+◌, ◌-◌, ◌++◌, List, [], ◌∷◌, length, Option, Some, None, slice_get, sum_by, IfSome}
use Rattle.std.specs.List.{filter_map, range_with_len}
use Rattle.std.specs.Option.{option_map, option_map_or}
use Rattle.idx_outside.specs.declared.mem_file.MemFile.{MemFile}
use Rattle.idx_header.specs.Header.{HeaderValue, ends_of}
use Rattle.idx_header.specs.Revisions.{header_that_stands}
use Rattle.idx_layout.specs.Shape.{shape_of}
use Rattle.idx_hall.specs.Posts.{Post, post_of}
use Rattle.idx_edition.specs.Loaded.{Counts, IsCause}
use Rattle.idx_edition.specs.Stored.{first_bad, found_files, has_block, stored_block}
use Rattle.idx_edition.specs.declared.load_fault.LoadFault.{LoadFault}

-- the numbers of the steps of a header, by its first and its last step, rising; without a time the only step is 0
abbrev pub numbers_between : Option (ℕ × ℕ) → List ℕ
numbers_between None = 0 ∷ []
numbers_between (Some ends) = range_with_len ends.0 (ends.1 - ends.0 + 1)

abbrev pub step_numbers : HeaderValue → List ℕ
step_numbers h = numbers_between (ends_of h.steps)

-- the post of a step at a header's own revision: the blocks that its committed files store
abbrev pub step_post : List MemFile → ℕ → HeaderValue → Post
step_post files step h = post_of (shape_of h) step (has_block h step files) (Some (stored_block h step files))

-- the post of a step that stands: that of its newest revision
abbrev pub post_at : HeaderValue → List MemFile → ℕ → Option Post
post_at h files step = option_map (step_post files step) (header_that_stands h step files)

-- the posts of the steps that stand, by rising time
abbrev pub standing_posts : HeaderValue → List MemFile → List Post
standing_posts h files = filter_map (post_at h files) (step_numbers h)

-- the first faulty row of a step that stands, in its newest revision
abbrev pub bad_at : HeaderValue → List MemFile → ℕ → Option LoadFault
bad_at h files step = option_map_or (λ revised. first_bad revised step files) (header_that_stands h step files) None

-- the first faulty row of the steps that stand, in the order of steps, files and rows
abbrev pub first_bad_row : HeaderValue → List MemFile → Option LoadFault
first_bad_row h files = slice_get (filter_map (bad_at h files) (step_numbers h)) 0

-- how many reads the tables of a step take: one of each file of its newest revision that is there
abbrev pub reads_at : HeaderValue → List MemFile → ℕ → ℕ
reads_at h files step =
    option_map_or (λ revised. length (found_files revised step files)) (header_that_stands h step files) 0

-- how many reads the tables of these steps take
abbrev pub reads_of : HeaderValue → List MemFile → List ℕ → ℕ
reads_of h files steps = sum_by (reads_at h files) steps

-- Why the steps are not published, by what is known of the committed files and by the counts of the bay and the reader.
abbrev pub IsBoardCause : HeaderValue → Option (List MemFile) → Counts → LoadFault → Type 0
IsBoardCause h known c fault = IsCause (λ bad. IfSome known (λ files. first_bad_row h files ≡ Some bad)) c fault

-- A step was published, or nothing happened: where the committed files are known, it was published exactly where it stands, with
-- the blocks that its newest revision stores.
pub record IsStepAdded (h : HeaderValue) (step : ℕ) (known : Option (List MemFile)) (before after : List Post) : Type 0 where
  pub times : (after ≡ before) ⊎ ((p : Post) × (p.time ≡ step) × (after ≡ before ++ p ∷ []))
  pub post : IfSome known (λ files. after ≡ before ++ filter_map (post_at h files) (step ∷ []))
