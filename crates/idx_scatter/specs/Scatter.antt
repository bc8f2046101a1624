-- The samples of a block, put to the places of its points among those that are asked for.
use Rattle.std.specs.Prelude.{◌≡◌, ℕ, Bool, ◌*◌, ◌/◌, ◌%◌, ◌^◌, ◌==◌, nat_lt, if◌then◌else◌, List, take, drop, slice_get, Some}
use Rattle.idx_hz.specs.Address.{hz_address}
use Rattle.idx_scatter.specs.Asked.{Asked, asked_points}

-- the sample of a place, where each has so many bytes
abbrev pub sample_of : ℕ → List ℕ → ℕ → List ℕ
sample_of size bytes place = take size (drop (place * size) bytes)

-- a point has its address in a block of 2^bits addresses
abbrev pub is_in_block : List ℕ → ℕ → ℕ → List ℕ → Bool
is_in_block mask bits block p = hz_address mask p / 2 ^ bits == block

-- what stands at the place of a point in the answer afterwards: where the point is in the block, the block's sample at
-- the place of the point's address in it, and else what stood there
abbrev pub put_of_block : Asked → ℕ → ℕ → ℕ → List ℕ → List ℕ → ℕ → List ℕ → List ℕ
put_of_block a bits block size samples old place p =
    if is_in_block a.mask bits block p then sample_of size samples (hz_address a.mask p % 2 ^ bits)
    else sample_of size old place

-- that stands at the place of each point that is asked for
abbrev pub IsScattered : Asked → ℕ → ℕ → ℕ → List ℕ → List ℕ → List ℕ → Type 0
IsScattered a bits block size samples old new =
    (place : ℕ) (p : List ℕ) → slice_get (asked_points a) place ≡ Some p →
    sample_of size new place ≡ put_of_block a bits block size samples old place p

-- the same of the first so many addresses
abbrev pub put_of_first : Asked → ℕ → ℕ → List ℕ → List ℕ → ℕ → List ℕ → List ℕ
put_of_first a count size samples old place p =
    if nat_lt (hz_address a.mask p) count then sample_of size samples (hz_address a.mask p)
    else sample_of size old place

abbrev pub AreFirstScattered : Asked → ℕ → ℕ → List ℕ → List ℕ → List ℕ → Type 0
AreFirstScattered a count size samples old new =
    (place : ℕ) (p : List ℕ) → slice_get (asked_points a) place ≡ Some p →
    sample_of size new place ≡ put_of_first a count size samples old place p
