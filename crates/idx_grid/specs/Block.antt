-- A block: 2^bits consecutive hierarchical addresses, and the points that have them.
use Rattle.std.specs.Prelude.{◌≡◌, ℕ, ◌-◌, ◌/◌, ◌^◌, List, length}
use Rattle.idx_hz.specs.Mask.{HasAddress}
use Rattle.idx_hz.specs.Address.{z_address, hz_address}

-- a point of a block: it has so many axes, lies below the mask's size, and has an address from block * 2^bits to
-- (block + 1) * 2^bits - 1
pub record IsInBlock (mask : List ℕ) (axes bits block : ℕ) (p : List ℕ) : Type 0 where
  pub size : length p ≡ axes
  pub has : HasAddress mask p
  pub address : hz_address mask p / 2 ^ bits ≡ block

-- a point whose Z address begins with so many given binary digits
pub record HasPrefix (mask : List ℕ) (axes digits front : ℕ) (p : List ℕ) : Type 0 where
  pub size : length p ≡ axes
  pub has : HasAddress mask p
  pub prefix : z_address mask p / 2 ^ (length mask - digits) ≡ front
