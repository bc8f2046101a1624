-- How files are read: by pieces, each byte once at most.
use Rattle.std.specs.Prelude.{ℕ, ◌+◌, ◌-◌, ◌<◌, ◌≤◌, ◌/◌, List, All, length, sum_by}
use Rattle.std.specs.List.{sum}
use Rattle.idx_outside.specs.Cause.{AskedFor, MadeReads}
use Rattle.idx_layout.specs.Files.{length_of_file}
use Rattle.idx_layout.specs.Placing.{Placing}
use Rattle.idx_check.specs.Verdict.{written_before}
use Rattle.idx_check.specs.declared.verdict.Verdict.{Verdict}
use Rattle.idx_check.specs.declared.verdict.Verdict.TheVariants.{Same, Wrong}

-- how many bytes one read asks for at most
abbrev pub most_at_once : ℕ
most_at_once = 65536

-- the length of a piece: some bytes, and no more than that
abbrev pub IsPiece : ℕ → Type 0
IsPiece n = (0 < n) × (n ≤ most_at_once)

-- Reads of these lengths were made, each of a piece, and all together no longer than it is from one place to another: by how many
-- reads a reader has made, and by how many bytes it was asked for. Since each has some bytes, there are no more reads than bytes.
pub record ReadsPieces (reads_before reads_after asked_before asked_after from to : ℕ) : Type 0 where
  pub lengths : List ℕ
  pub each : All IsPiece lengths
  pub few : from + sum lengths ≤ to
  pub made : MadeReads reads_before reads_after (length lengths)
  pub asked : AskedFor asked_before asked_after (sum lengths)

-- the same of a reader, by the ghost members of its trait
abbrev pub ReadsOn : {R : Type 0} → (R → ℕ) → (R → ℕ) → R → R → ℕ → ℕ → Type 0
ReadsOn reads asked old new from to = ReadsPieces (reads old) (reads new) (asked old) (asked new) from to

-- how far a file was read, of which so much was looked at, by the piece that was read ahead
abbrev pub read_to : ℕ → List ℕ → ℕ → ℕ
read_to at piece used = at + (length piece - used)

-- How many bytes are asked for at most where this is said: those of the files that the writer writes, up to the one that is wrong.
abbrev pub most_asked : Placing → Verdict → ℕ
most_asked l (Same files bytes) = bytes
most_asked l (Wrong file at why) = sum_by (length_of_file l) (written_before l (file / l.per_file + 1))
