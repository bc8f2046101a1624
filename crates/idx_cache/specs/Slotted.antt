-- What the slots of a cache hold, the most recently used first: slot numbers, each with nothing or a key and its value.
use Rattle.std.specs.Prelude.{Bool, true, zero, suc, ◌<◌, ◌≡◌, ℕ, ◌≤◌, List, [], ◌∷◌, length, nat_eq, slice_set, Option, Some, None}
use Rattle.std.specs.List.{IsDistinct, AllByRecursion, slice_get}
use Rattle.std.specs.Option.{option_flatten}
use Rattle.std.specs.Map.{lookup, keys_of}
use Rattle.idx_cache.specs.Indexed.{Indexed}

abbrev pub Slotted : Type 0 → Type 0 → Type 0
Slotted K V = List (ℕ × Option (K × V))

-- what a slot holds
abbrev pub content_at : {X : Type 0} → List (Option X) → ℕ → Option X
content_at contents slot = option_flatten (slice_get contents slot)

-- each slot of the order is below the number
abbrev pub IsWithin : {U : Type 0} → ℕ → List (ℕ × U) → Type 0
IsWithin n es = AllByRecursion (λ y. y < n) (keys_of es)

module _ {U X : Type 0} where
  -- the slots in their order, each with what it holds
  abbrev pub placed : List (Option X) → List (ℕ × U) → List (ℕ × Option X)
  placed contents [] = []
  placed contents (e ∷ es) = (e.0, content_at contents e.0) ∷ placed contents es

  -- what the slots hold after all but the first n of the order are emptied
  abbrev pub contents_emptied : ℕ → List (ℕ × U) → List (Option X) → List (Option X)
  contents_emptied n [] contents = contents
  contents_emptied zero (e ∷ es) contents = contents_emptied zero es (slice_set contents e.0 None)
  contents_emptied (suc n) (e ∷ es) contents = contents_emptied n es contents

  -- the order has the slots below the number, and each is empty
  pub record IsVacant (contents : List (Option X)) (es : List (ℕ × U)) (n : ℕ) : Type 0 where
    pub slots : length es ≡ n
    pub room : length contents ≡ n
    pub below : IsWithin n es
    pub none : (s : ℕ) → content_at contents s ≡ None

-- all slots but the first n are emptied in place
abbrev pub emptied : {X : Type 0} → ℕ → List (ℕ × Option X) → List (ℕ × Option X)
emptied n [] = []
emptied zero (e ∷ es) = (e.0, None) ∷ emptied zero es
emptied (suc n) (e ∷ es) = e ∷ emptied n es

module _ {K V : Type 0} where
  -- the slot of each key, in order
  abbrev pub homes : Slotted K V → List (K × ℕ)
  homes [] = []
  homes ((s, None) ∷ es) = homes es
  homes ((s, Some p) ∷ es) = (p.0, s) ∷ homes es

  -- the pairs of the filled slots, in order
  abbrev pub filled : Slotted K V → List (K × V)
  filled [] = []
  filled ((s, None) ∷ es) = filled es
  filled ((s, Some p) ∷ es) = p ∷ filled es

  -- the empty slots stand behind the filled ones
  abbrev pub IsPacked : Slotted K V → Type 0
  IsPacked [] = Unit {0}
  IsPacked ((s, None) ∷ es) = filled es ≡ []
  IsPacked ((s, Some p) ∷ es) = IsPacked es

  -- no key stands in two slots, and the index names the slot of each key and no other
  pub record IsTied (eq : K → K → Bool) (es : Slotted K V) (x : Indexed K) : Type 0 where
    pub apart : IsDistinct eq (keys_of (homes es))
    pub found : (q : K) → lookup (eq q) x.entries ≡ lookup (eq q) (homes es)
    pub len : length x.entries ≡ length (homes es)
    pub room : length es ≤ x.room

  -- the slot holds the key, or one equal to it
  pub record Holds (eq : K → K → Bool) (es : Slotted K V) (slot : ℕ) (key : K) : Type 0 where
    pub stored : K
    pub value : V
    pub same : eq key stored ≡ true
    pub there : lookup (nat_eq slot) es ≡ Some (Some (stored, value))
