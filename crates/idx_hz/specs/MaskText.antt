-- The text of a mask (the bitmask of OpenVisus): the letter V, and behind it a digit 0 to 4 for each binary digit of a
-- Z address, the coarsest first.
use Rattle.std.specs.Prelude.{◌≡◌, ℕ, Bool, ◌+◌, ◌-◌, ◌<◌, ◌≤◌, ◌==◌, ◌&&◌, nat_le, if◌then◌else◌, List, [], ◌∷◌, length, map, drop, slice_get, slice_index, Option, Some, None, All}
use Rattle.std.specs.List.{list_all}

-- the text of a mask; 86 is the letter V, and 48 the digit 0
abbrev pub mask_text : List ℕ → List ℕ
mask_text mask = 86 ∷ map (λ d. d + 48) mask

-- a byte that is one of the characters 0 to 4
abbrev pub IsMaskDigit : ℕ → Type 0
IsMaskDigit byte = (48 ≤ byte) × (byte ≤ 52)

-- the first byte is the letter V
abbrev pub BeginsWithV : List ℕ → Type 0
BeginsWithV text = slice_get text 0 ≡ Some 86

-- the byte at this place is the first that is no digit
pub record IsFirstBad (bytes : List ℕ) (place : ℕ) : Type 0 where
  pub within : place < length bytes
  pub bad : ¬ IsMaskDigit (slice_index bytes place)
  pub before : (k : ℕ) → k < place → IsMaskDigit (slice_index bytes k)

-- of the bytes behind the V, the one at this place of the text is the first that is no digit
pub record IsFirstBadDigit (text : List ℕ) (at : ℕ) : Type 0 where
  pub letter : BeginsWithV text
  pub behind : 1 ≤ at
  pub first : IsFirstBad (drop 1 text) (at - 1)

-- all bytes behind the V are digits, and there are more than forty
pub record HasTooManyDigits (text : List ℕ) : Type 0 where
  pub letter : BeginsWithV text
  pub digits : All IsMaskDigit (drop 1 text)
  pub many : 40 < length (drop 1 text)

-- a byte that is one of the characters 0 to 4, as a test
abbrev pub is_mask_digit : ℕ → Bool
is_mask_digit byte = nat_le 48 byte && nat_le byte 52

-- one to forty of these characters
abbrev pub are_mask_digits : List ℕ → Bool
are_mask_digits digits = nat_le 1 (length digits) && nat_le (length digits) 40 && list_all is_mask_digit digits

-- the mask that a text spells, if it spells one
unfoldable pub mask_of : List ℕ → Option (List ℕ)
mask_of [] = None
mask_of (letter ∷ digits) = if (letter == 86) && are_mask_digits digits then Some (map (λ byte. byte - 48) digits) else None
