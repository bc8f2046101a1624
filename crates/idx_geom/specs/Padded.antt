-- How a list of numbers is stored in an array: it stands in front, and zeros behind it.
use Rattle.std.specs.Prelude.{◌≡◌, ℕ, ◌-◌, ◌≤◌, ◌++◌, List, length, take, drop, replicate}
use Rattle.std.proofs.Common.{arith, ap, sym, ◌∙◌, take-append-drop, length-take-le}

-- an array of so many numbers stores a list of so many
pub record IsPadded (room len : ℕ) (array : List ℕ) : Type 0 where
  pub size : length array ≡ room
  pub within : len ≤ room
  pub rest : drop len array ≡ replicate (room - len) 0

-- the array that stores a list
abbrev pub padded : ℕ → List ℕ → List ℕ
padded room xs = xs ++ replicate (room - length xs) 0

-- the list that an array stores, and the array again
pub length_again : (room len : ℕ) (array : List ℕ) → IsPadded room len array → length (take len array) ≡ len
length_again room len array h = length-take-le len array (omega (arith, h.size, h.within))

pub padded_again : (room len : ℕ) (array : List ℕ) → IsPadded room len array → padded room (take len array) ≡ array
padded_again room len array h =
    rw (length_again room len array h) (ap (λ t. take len array ++ t) (sym h.rest) ∙ take-append-drop len array)
