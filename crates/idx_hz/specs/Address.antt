-- Hierarchical Z order, as in Pascucci and Frank, "Global static indexing for real-time exploration of very large
-- regular grids" (SC 2001), with the order of bits that a mask names.
use Rattle.std.specs.Prelude.{ℕ, zero, suc, ◌+◌, ◌-◌, ◌*◌, ◌/◌, ◌%◌, ◌^◌, ◌==◌, if◌then◌else◌, List, [], ◌∷◌, length, slice_index}
use Rattle.std.specs.Int.{bit_at}
use Rattle.idx_hz.specs.Mask.{bit_count}

-- the Z address: each digit gives the bit of its coordinate that it names, coarsest first. A digit names the bit
-- whose number is the count of the same axis among the finer digits
abbrev pub z_address : List ℕ → List ℕ → ℕ
z_address [] p = 0
z_address (axis ∷ finer) p =
    bit_at (slice_index p axis) (bit_count axis finer) * 2 ^ length finer + z_address finer p

-- the greatest q, up to a number of digits, such that 2^q divides z
abbrev pub twos_in : ℕ → ℕ → ℕ
twos_in zero z = 0
twos_in (suc digits) z = if z % 2 == 0 then suc (twos_in digits (z / 2)) else 0

-- the level of a Z address of so many digits: their number less the greatest q such that 2^q divides the address. The
-- address 0, which every power divides, has level 0
abbrev pub level_at : ℕ → ℕ → ℕ
level_at digits z = digits - twos_in digits z

-- the level of a point
abbrev pub level : List ℕ → List ℕ → ℕ
level mask p = level_at (length mask) (z_address mask p)

-- the hierarchical address of a Z address: level h from 1 fills the addresses 2^(h-1) to 2^h - 1, in Z order
abbrev pub hz_at : ℕ → ℕ → ℕ
hz_at digits z =
    let h = level_at digits z in
    if h == 0 then 0 else 2 ^ (h - 1) + z / 2 ^ (digits - h + 1)

-- the hierarchical address of a point
abbrev pub hz_address : List ℕ → List ℕ → ℕ
hz_address mask p = hz_at (length mask) (z_address mask p)
