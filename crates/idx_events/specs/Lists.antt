-- Words on lists: what holds of each, of one, and what stands in them.
use Rattle.std.specs.Prelude.{ℕ, Bool, ◌&&◌, cond, nat_eq, List, [], ◌∷◌, ◌++◌, ◌⊎◌}
use Rattle.std.specs.List.{list_any}

-- a number stands in a list
abbrev pub has : ℕ → List ℕ → Bool
has n xs = list_any (nat_eq n) xs

abbrev pub pair_eq : ℕ × ℕ → ℕ × ℕ → Bool
pair_eq a b = nat_eq a.0 b.0 && nat_eq a.1 b.1

-- a pair stands in a list
abbrev pub has_pair : ℕ × ℕ → List (ℕ × ℕ) → Bool
has_pair p ps = list_any (pair_eq p) ps

-- lists one after another
abbrev pub joined : List (List ℕ) → List ℕ
joined [] = []
joined (xs ∷ more) = xs ++ joined more

module _ {X : Type 0} where
  -- it holds of one of the list
  abbrev pub AnyOf : (X → Type 0) → List X → Type 0
  AnyOf P [] = ⊥
  AnyOf P (x ∷ xs) = P x ⊎ AnyOf P xs

  -- the first that passes the test is changed
  abbrev pub change_first : (X → Bool) → (X → X) → List X → List X
  change_first test f [] = []
  change_first test f (x ∷ xs) = cond (test x) (f x ∷ xs) (x ∷ change_first test f xs)
