-- The box of a header: inclusive pairs of a lower and an upper end, one for each axis, and which of them are dropped.
use Rattle.std.specs.Prelude.{ℕ, Bool, true, ◌+◌, ◌^◌, ◌==◌, ◌&&◌, nat_le, nat_lt, List, [], ◌∷◌, length, Option, Some, None, option_and_then, if◌then◌else◌}
use Rattle.std.specs.List.{list_all}
use Rattle.idx_text.specs.Numbers.{numbers_of}
use Rattle.idx_hz.specs.Mask.{bit_count}

-- the numbers by twos, if none is left over
abbrev pub by_twos : List ℕ → Option (List (ℕ × ℕ))
by_twos [] = Some []
by_twos (lo ∷ []) = None
by_twos (lo ∷ hi ∷ rest) = option_and_then (λ pairs. Some ((lo, hi) ∷ pairs)) (by_twos rest)

-- 2 to 5 pairs, in each of which the lower end is at most the upper one
abbrev pub make_box : List (ℕ × ℕ) → Bool
make_box pairs = nat_le 2 (length pairs) && nat_le (length pairs) 5 && list_all (λ b. nat_le b.0 b.1) pairs

abbrev pub checked_box : List (ℕ × ℕ) → Option (List (ℕ × ℕ))
checked_box pairs = if make_box pairs then Some pairs else None

-- the pairs that a text lists, if they make a box
unfoldable pub pairs_of : List ℕ → Option (List (ℕ × ℕ))
pairs_of text = option_and_then checked_box (option_and_then by_twos (numbers_of text))

-- each digit of the mask names a pair
abbrev pub names_pairs : List (ℕ × ℕ) → List ℕ → Bool
names_pairs pairs mask = list_all (λ digit. nat_lt digit (length pairs)) mask

-- from this axis on, each upper end is below 2 to the number of its axis's digits
abbrev pub fits_from : ℕ → List (ℕ × ℕ) → List ℕ → Bool
fits_from axis [] mask = true
fits_from axis (pair ∷ pairs) mask = nat_lt pair.1 (2 ^ bit_count axis mask) && fits_from (axis + 1) pairs mask

-- from this axis on, each pair is `0 0`, stands past the second pair, and its axis is not named by the mask
abbrev pub spare_from : ℕ → List (ℕ × ℕ) → List ℕ → Bool
spare_from axis [] mask = true
spare_from axis (pair ∷ pairs) mask =
    (pair.0 == 0) && (pair.1 == 0) && nat_le 2 axis && (bit_count axis mask == 0) && spare_from (axis + 1) pairs mask

-- the pairs from this axis on without the trailing ones that are dropped
abbrev pub kept_from : ℕ → List (ℕ × ℕ) → List ℕ → List (ℕ × ℕ)
kept_from axis [] mask = []
kept_from axis (pair ∷ pairs) mask =
    if spare_from axis (pair ∷ pairs) mask then [] else pair ∷ kept_from (axis + 1) pairs mask

-- the box of these pairs: trailing pairs `0 0` past the second, whose axis the mask does not name, are dropped
unfoldable pub box_of : List (ℕ × ℕ) → List ℕ → List (ℕ × ℕ)
box_of pairs mask = kept_from 0 pairs mask
