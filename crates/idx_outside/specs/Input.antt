-- What is still to come of an input, where it is known: `Some` of the bytes, or `None`.
use Rattle.std.specs.Prelude.{ℕ, List, [], ◌∷◌, ◌++◌, Option, Some, None}

-- These bytes, and then the input. What is not known stays unknown.
abbrev pub behind : List ℕ → Option (List ℕ) → Option (List ℕ)
behind piece None = None
behind piece (Some bytes) = Some (piece ++ bytes)

-- When a link was read: what was then still to come, and what had been written by then.
pub record Reading : Type 0 where
  pub coming : List ℕ
  pub written : List ℕ

-- the same of its parts
abbrev pub reading_of : List ℕ → List ℕ → Reading
reading_of coming written = record { coming = coming; written = written }

-- The readings of a link, with one more, made when this was still to come and this had been written. Known where all three are.
abbrev pub read_once_more : Option (List Reading) → Option (List ℕ) → Option (List ℕ) → Option (List Reading)
read_once_more (Some readings) (Some coming) (Some written) = Some (readings ++ reading_of coming written ∷ [])
read_once_more (Some readings) (Some coming) None = None
read_once_more (Some readings) None written = None
read_once_more None coming written = None
