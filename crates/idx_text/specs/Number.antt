-- Numbers as they stand in a word: 1 to 19 decimal digits without a sign. Leading zeros are allowed.
use Rattle.std.specs.Prelude.{ℕ, Bool, ◌+◌, ◌-◌, ◌*◌, ◌&&◌, nat_le, List, length, fold, Option, Some, None, if◌then◌else◌}
use Rattle.std.specs.List.{list_all}

-- the byte of a decimal digit
abbrev pub is_digit : ℕ → Bool
is_digit b = nat_le 48 b && nat_le b 57

-- the number that the digits stand for
abbrev pub decimal_of : List ℕ → ℕ
decimal_of digits = fold (λ n b. 10 * n + (b - 48)) 0 digits

-- the number that a word spells, if it spells one
unfoldable pub number_of : List ℕ → Option ℕ
number_of word =
    if nat_le 1 (length word) && nat_le (length word) 19 && list_all is_digit word then Some (decimal_of word) else None
