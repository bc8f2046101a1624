-- What stands below the events: the functions of the layers under them, and the laws that these layers prove.
use Rattle.std.specs.Prelude.{◌≡◌, ◌⊎◌, ℕ, ◌<◌, Bool, true, nat_eq, List, length, map, slice_index, Some}
use Rattle.std.specs.List.{range_with_len, AllByRecursion, IsDistinct}
use Rattle.idx_outside.specs.Shape.{Shape}
use Rattle.idx_hall.specs.Posts.{Post, bytes_at}
use Rattle.idx_plan.specs.declared.ask.Ask.{Ask}
use Rattle.idx_events.specs.Lists.{has, joined}

pub record Setting : Type 0 where
  -- the files of a step, rising, and the addresses of a file
  pub files : List ℕ
  pub addresses : ℕ → List ℕ
  -- the pieces with a point in a file, the ranks of a piece (none where there is no such piece), the piece of an address
  pub pieces_in : ℕ → List ℕ
  pub ranks : ℕ → List ℕ
  pub piece_at : ℕ → ℕ
  -- the fields, zero bytes for each, and the sample of a field at an address out of the raw bytes (zeros where no point has it)
  pub fields : ℕ
  pub zero : ℕ → List ℕ
  pub sample : List ℕ → ℕ → ℕ → List ℕ
  -- a file's name by its timestep, revision and number, and its bytes out of its samples
  pub name : ℕ → ℕ → ℕ → List ℕ
  pub lay : ℕ → List (List (List ℕ)) → List ℕ
  -- which blocks the files of a timestep's revision have, and what they store, by field and block
  pub has_blocks : ℕ → ℕ → List (List ℕ × List ℕ) → List (List Bool)
  pub stored : ℕ → ℕ → List (List ℕ × List ℕ) → List (List (List ℕ))
  pub shape : Shape
  -- the blocks of each round of a question, the answer out of held blocks, and the answer out of the volume
  pub rounds : Ask → List (List ℕ)
  pub put_together : Ask → List (ℕ × List ℕ) → List ℕ
  pub answer : List ℕ → Ask → List ℕ
  -- what a world takes: timesteps with their revisions, raw bytes, and questions
  pub valid_step : ℕ → ℕ → Bool
  pub valid_raw : List ℕ → Bool
  pub valid_ask : Ask → Bool

module _ (s : Setting) where
  -- what a function gives for each field and each address of a file
  abbrev pub table : ℕ → (ℕ → ℕ → List ℕ) → List (List (List ℕ))
  table file g = map (λ field. map (g field) (s.addresses file)) (range_with_len 0 s.fields)

  -- a file of a volume
  abbrev pub file_bytes : List ℕ → ℕ → List ℕ
  file_bytes raw file = s.lay file (table file (s.sample raw))

  -- with its name
  abbrev pub step_file : ℕ → ℕ → List ℕ → ℕ → List ℕ × List ℕ
  step_file time revision raw file = (s.name time revision file, file_bytes raw file)

  -- all files of a volume, rising
  abbrev pub step_files : ℕ → ℕ → List ℕ → List (List ℕ × List ℕ)
  step_files time revision raw = map (step_file time revision raw) s.files

  -- the post of the files of a timestep's revision
  abbrev pub post_of_files : ℕ → ℕ → List (List ℕ × List ℕ) → Post
  post_of_files time revision files =
      record { time = time; has = s.has_blocks time revision files; stored = Some (s.stored time revision files) }

  -- What the layers below prove.
  pub record SettingOk : Type 0 where
    pub apart : IsDistinct nat_eq s.files
    -- a sample of a file that is not zeros is of a piece that has a point in the file
    pub covered : (file : ℕ) → AllByRecursion (λ address. (has (s.piece_at address) (s.pieces_in file) ≡ true)
        ⊎ ((raw : List ℕ) (field : ℕ) → s.sample raw field address ≡ s.zero field)) (s.addresses file)
    pub some_rounds : (ask : Ask) → 0 < length (s.rounds ask)
    pub field : (ask : Ask) → s.valid_ask ask ≡ true → ask.field < length s.shape.lengths
    pub blocks : (ask : Ask) → s.valid_ask ask ≡ true → AllByRecursion (λ blocks. AllByRecursion (λ block. block < s.shape.blocks) blocks) (s.rounds ask)
    pub lengths : (time revision : ℕ) (raw : List ℕ) (field block : ℕ) → s.valid_step time revision ≡ true → s.valid_raw raw ≡ true →
        field < length s.shape.lengths → block < s.shape.blocks →
        length (bytes_at (s.stored time revision (step_files time revision raw)) field block) ≡ slice_index s.shape.lengths field
    -- blocks of a step's files that are all that a question needs make its answer
    pub answers : (time revision : ℕ) (raw : List ℕ) (ask : Ask) (held : List (ℕ × List ℕ)) → s.valid_step time revision ≡ true → s.valid_raw raw ≡ true → s.valid_ask ask ≡ true →
        AllByRecursion (λ pair. pair.1 ≡ bytes_at (s.stored time revision (step_files time revision raw)) ask.field pair.0) held →
        ((block : ℕ) → has block (map (λ pair. pair.0) held) ≡ has block (joined (s.rounds ask))) →
        s.put_together ask held ≡ s.answer raw ask
