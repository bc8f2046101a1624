-- A list that is written over from a place on.
use Rattle.std.specs.Prelude.{ℕ, ◌+◌, List, ◌++◌, length, take, drop}

-- the list with this piece written over it, from this place on
abbrev pub written : ℕ → List ℕ → List ℕ → List ℕ
written at piece list = take at list ++ (piece ++ drop (at + length piece) list)
