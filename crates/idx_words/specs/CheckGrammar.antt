-- The words of the command `check`: DATASET TIME.
use Rattle.std.specs.Prelude.{◌≡◌, ℕ, List, [], ◌∷◌, Some, IsTrue}
use Rattle.idx_text.specs.Number.{number_of}
use Rattle.idx_words.specs.PathWord.{is_path}

-- the words behind the command are those of `check`, a path and the number of a step, which is this one
abbrev pub AreCheckWords : List (List ℕ) → ℕ → Type 0
AreCheckWords (dataset ∷ step ∷ []) time = IsTrue (is_path dataset) × (number_of step ≡ Some time)
AreCheckWords _ time = ⊥

-- the words behind the command are those of `check`
abbrev pub AreSomeCheckWords : List (List ℕ) → Type 0
AreSomeCheckWords words = (time : ℕ) × AreCheckWords words time
