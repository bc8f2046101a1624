-- The type of a field: a base, and how many numbers of it a sample has. It stands as `base`, `base[n]` or `n*base`.
use Rattle.std.specs.Prelude.{ℕ, ◌==◌, Bool, List, [], ◌∷◌, ◌++◌, Option, Some, None, option_and_then, if◌then◌else◌}
use Rattle.std.specs.List.{list_any, before_first, after_first}
use Rattle.std.specs.Fmt.{decimal}
use Rattle.idx_text.specs.Number.{number_of}
use Rattle.idx_fields.specs.declared.base.Base.{Base}
use Rattle.idx_fields.specs.Base.{base_of, base_text}

-- the bytes `*`, `[` and `]`
abbrev pub is_star : ℕ → Bool
is_star b = b == 42

abbrev pub is_opening : ℕ → Bool
is_opening b = b == 91

abbrev pub is_closing : ℕ → Bool
is_closing b = b == 93

-- the count that a word spells: a number from 1
abbrev pub count_of : List ℕ → Option ℕ
count_of word = option_and_then (λ n. if n == 0 then None else Some n) (number_of word)

-- the type of this base and this count, if both are there
abbrev pub type_with : Option Base → Option ℕ → Option (Base × ℕ)
type_with base count = option_and_then (λ b. option_and_then (λ n. Some (b, n)) count) base

-- what stands before a `]` that is the last byte
abbrev pub before_closing : List ℕ → Option (List ℕ)
before_closing [] = None
before_closing (b ∷ []) = if is_closing b then Some [] else None
before_closing (b ∷ c ∷ cs) = option_and_then (λ front. Some (b ∷ front)) (before_closing (c ∷ cs))

-- the type that a word spells, if it spells one
unfoldable pub type_of : List ℕ → Option (Base × ℕ)
type_of word =
    if list_any is_star word then
    type_with (base_of (after_first is_star word)) (count_of (before_first is_star word))
    else
    (if list_any is_opening word then
    type_with (base_of (before_first is_opening word))
    (option_and_then count_of (before_closing (after_first is_opening word)))
    else type_with (base_of word) (Some 1))

-- the type as it is written
unfoldable pub canonical_type : Base → ℕ → List ℕ
canonical_type base count = if count == 1 then base_text base else base_text base ++ 91 ∷ decimal count ++ 93 ∷ []
