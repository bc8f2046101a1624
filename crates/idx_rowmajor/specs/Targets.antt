-- The places to which the bits of an offset go in a row place.
use Rattle.std.specs.Prelude.{◌≡◌, ℕ, zero, suc, ◌+◌, ◌-◌, ◌<◌, ◌==◌, if◌then◌else◌, ◌^◌, List, length, drop, slice_index}
use Rattle.idx_hz.specs.Mask.{bit_count}
use Rattle.idx_rowmajor.specs.Bits.{Carries}
use Rattle.idx_rowmajor.specs.Reverse.{turned}
use Rattle.idx_rowmajor.specs.RowPlace.{row_place}

-- the lowest place of an axis: as many as there are digits of the axes before it
abbrev pub first_place : List ℕ → ℕ → ℕ
first_place digits zero = 0
first_place digits (suc axis) = first_place digits axis + bit_count axis digits

-- the place of bit j: the finest digit gives bit 0
abbrev pub target_of : List ℕ → ℕ → ℕ
target_of digits j =
    let axis = slice_index digits (length digits - 1 - j) in
    first_place digits axis + bit_count axis (drop (length digits - j) digits)

-- the places of so many bits
abbrev pub AreTargets : ℕ → List ℕ → List ℕ → Type 0
AreTargets bits digits targets = (j : ℕ) → j < bits → slice_index targets j ≡ target_of digits j

-- those of the bits in reverse order
abbrev pub AreMirrored : ℕ → List ℕ → List ℕ → Type 0
AreMirrored bits targets mirrored = (j : ℕ) → j < bits → slice_index mirrored j ≡ slice_index targets (bits - 1 - j)

-- the places of bits that are taken back
abbrev pub AreInverse : ℕ → List ℕ → List ℕ → Type 0
AreInverse bits targets inverse = (j : ℕ) → j < bits → slice_index inverse (slice_index targets j) ≡ j

-- the number whose bits go to their places: the offset, and in block 0 the offset with the bits below its highest 1
-- reversed
abbrev pub bits_of : ℕ → ℕ → ℕ → ℕ
bits_of bits block offset = if block == 0 then turned bits offset else offset

-- the row place of each offset of a block has its bits, each at its place
abbrev pub GiveRowPlaces : List ℕ → ℕ → ℕ → ℕ → List ℕ → Type 0
GiveRowPlaces mask axes bits block targets =
    (offset : ℕ) → offset < 2 ^ bits →
    Carries bits targets (bits_of bits block offset) (row_place mask axes bits block offset)
