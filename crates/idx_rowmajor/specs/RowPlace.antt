-- The places of a block's points in row-major order. A block has 2^bits consecutive hierarchical addresses (Pascucci
-- and Frank 2001); an offset counts its addresses from the first one on.
use Rattle.std.specs.Prelude.{ℕ, Bool, ◌+◌, ◌-◌, ◌*◌, ◌/◌, ◌%◌, ◌^◌, ◌<◌, ◌≤◌, ◌==◌, List, [], length, map, filter}
use Rattle.std.specs.List.{range_with_len, before_first, slice_index_or}
use Rattle.idx_geom.specs.Region.{points}
use Rattle.idx_hz.specs.Mask.{NamesAxes, bit_count}
use Rattle.idx_hz.specs.Address.{hz_address}

-- the bounds of the coordinates below a mask's size, on one axis and on so many
abbrev pub axis_bounds : List ℕ → ℕ → ℕ × ℕ
axis_bounds mask axis = (0, 2 ^ bit_count axis mask - 1)

abbrev pub size_box : List ℕ → ℕ → List (ℕ × ℕ)
size_box mask axes = map (λ axis. axis_bounds mask axis) (range_with_len 0 axes)

-- a block: the mask has so many bits or more, and the block's number is below that of the blocks
pub record IsBlock (mask : List ℕ) (axes bits block : ℕ) : Type 0 where
  pub named : NamesAxes mask axes
  pub fits : bits ≤ length mask
  pub exists : block < 2 ^ (length mask - bits)

-- a point has its address in a block
abbrev pub is_in_block : List ℕ → ℕ → ℕ → List ℕ → Bool
is_in_block mask bits block p = hz_address mask p / 2 ^ bits == block

-- the points below the mask's size that have their address in a block, in row-major order, axis 0 fastest
unfoldable pub block_points : List ℕ → ℕ → ℕ → ℕ → List (List ℕ)
block_points mask axes bits block = filter (is_in_block mask bits block) (points (size_box mask axes))

-- the row place of an offset: how many points of the block come, in row-major order, before the point of its address
unfoldable pub row_place : List ℕ → ℕ → ℕ → ℕ → ℕ → ℕ
row_place mask axes bits block offset =
    length (before_first (λ p. hz_address mask p == block * 2 ^ bits + offset) (block_points mask axes bits block))

-- the offset of a row place: that of the address of the block's point which so many points of the block come before
unfoldable pub offset_at : List ℕ → ℕ → ℕ → ℕ → ℕ → ℕ
offset_at mask axes bits block place =
    hz_address mask (slice_index_or (block_points mask axes bits block) place []) % 2 ^ bits
