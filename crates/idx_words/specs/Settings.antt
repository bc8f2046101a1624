-- What the options that words give are, and which they leave.
use Rattle.std.specs.Prelude.{ℕ, ◌≤◌, List, [], ◌∷◌, filter, IfSome, IsTrue}
use Rattle.std.specs.Option.{is_none}
use Rattle.idx_words.specs.declared.setting.Setting.{Setting}
use Rattle.idx_words.specs.declared.setting.Setting.TheVariants as options
use Rattle.idx_words.specs.Options.{given, number_given}
use Rattle.idx_words.specs.PathWord.{is_path}

-- the number is from the least to the greatest
abbrev pub IsFrom : ℕ → ℕ → ℕ → Type 0
IsFrom least most n = (least ≤ n) × (n ≤ most)

-- what is given is within the limits of its option
pub record AreWithin (words : List (List ℕ)) : Type 0 where
  pub ranks : IfSome (number_given words options.Ranks) (IsFrom 1 256)
  pub cache : IfSome (number_given words options.Cache) (IsFrom 1 65536)
  pub workers : IfSome (number_given words options.Workers) (IsFrom 1 64)
  pub links : IfSome (number_given words options.Links) (λ links. 1 ≤ links)
  pub raw : IfSome (given words options.Raw) (λ path. IsTrue (is_path path))

-- the words are pairs, of whatever names and values
abbrev pub ArePairs : List (List ℕ) → Type 0
ArePairs [] = Unit {0}
ArePairs (name ∷ []) = ⊥
ArePairs (name ∷ value ∷ words) = ArePairs words

-- of these options, those that the words do not give
abbrev pub open_among : List (List ℕ) → List Setting → List Setting
open_among words options = filter (λ option. is_none (given words option)) options
