-- A file of which the front is read.
use Rattle.std.specs.Prelude.{◌≡◌, ℕ, List, [], ◌++◌, take, Option, IfSome, MatchOption}

-- The front of a file was appended: so many first bytes of it, or all where it has fewer. Where there was no file,
-- nothing was appended.
pub record AppendsFront {F : Type 0} (left : F → Option (List ℕ)) (most : ℕ) (old new : List ℕ) : Type 0 where
  pub file : Option F
  pub text : List ℕ
  pub appended : new ≡ old ++ text
  pub front : MatchOption file (text ≡ []) (λ f. IfSome (left f) (λ bytes. text ≡ take most bytes))
