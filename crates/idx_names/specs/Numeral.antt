-- Numbers as they stand in the names of files and folders.
use Rattle.std.specs.Prelude.{ℕ, ◌-◌, List, ◌++◌, length, map, replicate, false}
use Rattle.std.specs.Fmt.{digit_glyph}
use Rattle.std.specs.Int.Digits.{digits_of}

-- the digits of a number with at least so many of them, filled with zeros on the left; letters of digits are lower-case
unfoldable pub numeral : ℕ → ℕ → ℕ → List ℕ
numeral base least n =
    let digits = digits_of base n in map (digit_glyph false) (replicate (least - length digits) 0 ++ digits)

abbrev pub hexadecimal : ℕ → ℕ → List ℕ
hexadecimal least n = numeral 16 least n

abbrev pub decimal : ℕ → ℕ → List ℕ
decimal least n = numeral 10 least n
