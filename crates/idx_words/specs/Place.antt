-- The place of the first word that is wrong or missing in a list of words.
use Rattle.std.specs.Prelude.{◌≡◌, ℕ, ◌+◌, ◌<◌, ◌≤◌, List, ◌++◌, length, take}

-- some list of the grammar begins with the first n words
abbrev pub SomeListBegins : (List (List ℕ) → Type 0) → List (List ℕ) → ℕ → Type 0
SomeListBegins InGrammar words n = (rest : List (List ℕ)) × InGrammar (take n words ++ rest)

-- The place, counted from 0, is the least such that no list of the grammar begins with the words up to it and the word at it.
-- Where there is none, it is the number of words.
pub record IsPlace (InGrammar : List (List ℕ) → Type 0) (words : List (List ℕ)) (at : ℕ) : Type 0 where
  pub within : at ≤ length words
  pub before : (k : ℕ) → k < at → SomeListBegins InGrammar words (k + 1)
  pub wrong : at < length words → ¬ SomeListBegins InGrammar words (at + 1)

-- likewise, counted in the list that has one word more in front
abbrev pub IsPlaceBehind : (List (List ℕ) → Type 0) → List (List ℕ) → ℕ → Type 0
IsPlaceBehind InGrammar words at = (k : ℕ) × (at ≡ k + 1) × IsPlace InGrammar words k
