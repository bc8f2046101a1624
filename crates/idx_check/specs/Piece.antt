-- A piece of a file that was read ahead, and how much of the file is read.
use Rattle.std.specs.Prelude.{◌≡◌, ℕ, ◌+◌, ◌-◌, ◌%◌, ◌<◌, ◌≤◌, min, List, length, slice_index, Option, IfSome}
use Rattle.idx_outside.specs.Cause.{AskedFor}

-- the length of a file is known where its bytes are
abbrev pub HasLength : Option (List ℕ) → ℕ → Type 0
HasLength contents there = IfSome contents (λ bytes. there ≡ length bytes)

-- What of a piece was not looked at stands in the file from this place on; behind the file's end it goes on with zeros. A stretch
-- of the file is looked at unit by unit, of which so much is left from the place on: what was read ahead is whole units of it.
pub record IsOnTheWay (contents : Option (List ℕ)) (piece : List ℕ) (used unit at left : ℕ) : Type 0 where
  pub within : used ≤ length piece
  pub same : IfSome contents (λ bytes. (i : ℕ) → used + i < length piece → slice_index piece (used + i) ≡ slice_index bytes (at + i))
  pub few : length piece - used ≤ left
  pub whole : (length piece - used) % unit ≡ 0
  pub rest : left % unit ≡ 0

-- Of a file of so many bytes all were asked for up to the end of what was read ahead, where this was asked for before.
abbrev pub AskedUpTo : ℕ → ℕ → List ℕ → ℕ → ℕ → ℕ → Type 0
AskedUpTo before asked piece used at there = AskedFor before asked (min (at + (length piece - used)) there)
