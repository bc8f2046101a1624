-- The words of the command `drill`: NUMBER.
use Rattle.std.specs.Prelude.{◌≡◌, ℕ, ◌≤◌, List, [], ◌∷◌, Some}
use Rattle.idx_text.specs.Number.{number_of}

-- the word is the number of a drill, from 1 to 8
pub record SpellsDrill (word : List ℕ) (number : ℕ) : Type 0 where
  pub spelled : number_of word ≡ Some number
  pub some : 1 ≤ number
  pub few : number ≤ 8

-- the words behind the command are those of `drill`, which stand for this number
abbrev pub AreDrillWords : List (List ℕ) → ℕ → Type 0
AreDrillWords (word ∷ []) number = SpellsDrill word number
AreDrillWords _ number = ⊥

-- the words behind the command are those of `drill`
abbrev pub AreSomeDrillWords : List (List ℕ) → Type 0
AreSomeDrillWords words = (number : ℕ) × AreDrillWords words number
