-- Lists of numbers as they stand in a text: separated by blanks. A blank is a space or a tab, and blanks before the first
-- number and behind the last are passed over.
use Rattle.std.specs.Prelude.{ℕ, Bool, true, false, ◌==◌, ◌||◌, List, [], ◌∷◌, map, filter, Option, Some, option_and_then}
use Rattle.std.specs.List.{slice_split}
use Rattle.idx_text.specs.Number.{number_of}

abbrev pub is_blank : ℕ → Bool
is_blank b = (b == 32) || (b == 9)

abbrev pub has_bytes : List ℕ → Bool
has_bytes [] = false
has_bytes (b ∷ bs) = true

-- the runs of bytes between blanks
abbrev pub runs : List ℕ → List (List ℕ)
runs text = filter has_bytes (slice_split is_blank text)

-- all of the numbers, or none where one of them is missing
abbrev pub all_of : List (Option ℕ) → Option (List ℕ)
all_of [] = Some []
all_of (n ∷ ns) = option_and_then (λ first. option_and_then (λ rest. Some (first ∷ rest)) (all_of ns)) n

-- the numbers that a text lists, if each run is a number
unfoldable pub numbers_of : List ℕ → Option (List ℕ)
numbers_of text = all_of (map number_of (runs text))
