-- Paths as they stand in a word: 1 to 4,096 bytes, all of them printable ASCII characters, and no leading `-`.
use Rattle.std.specs.Prelude.{ℕ, Bool, ◌==◌, ◌&&◌, nat_le, not, List, length, slice_index}
use Rattle.std.specs.List.{list_all}

-- the byte of a space or of another printable ASCII character
abbrev pub is_printable : ℕ → Bool
is_printable b = nat_le 0x20 b && nat_le b 0x7e

-- the word is a path; 45 is the character `-`
unfoldable pub is_path : List ℕ → Bool
is_path word =
    nat_le 1 (length word) && nat_le (length word) 4096 && list_all is_printable word && not (slice_index word 0 == 45)
