-- How the samples of a dataset are laid out: in blocks of consecutive hierarchical addresses, and in files of consecutive
-- blocks (the IDX format of ViSUS; Pascucci and Frank 2001).
use Rattle.std.specs.Prelude.{ℕ, Bool, ◌*◌, ◌/◌, ◌^◌, ◌==◌, ◌&&◌, List, length, filter, find, replicate, slice_index}
use Rattle.std.specs.List.{list_any, flat_map, range_with_len}
use Rattle.std.specs.Option.{option_map_or}
use Rattle.idx_hz.specs.Address.{hz_address}
use Rattle.idx_geom.specs.Region.{points}
use Rattle.idx_geom.specs.Volume.{sample_at}
use Rattle.idx_header.specs.Header.{blocks_under, samples_bytes}

-- what decides where each sample stands: the mask's digits, the dataset's box, how many blocks of 2^bits addresses there
-- are in a file, and the bytes of a sample of each field
pub record Placing : Type 0 where
  pub mask : List ℕ
  pub region : List (ℕ × ℕ)
  pub bits : ℕ
  pub per_file : ℕ
  pub sizes : List ℕ

-- how many blocks there are, present or not
abbrev pub block_count : Placing → ℕ
block_count l = blocks_under (length l.mask) l.bits

-- how many bytes a block of a field has
abbrev pub block_bytes : Placing → ℕ → ℕ
block_bytes l field = samples_bytes (slice_index l.sizes field) l.bits

-- some point of a box has its address in a block of 2^bits addresses
abbrev pub has_point_in : List ℕ → List (ℕ × ℕ) → ℕ → ℕ → Bool
has_point_in mask region bits block = list_any (λ p. hz_address mask p / 2 ^ bits == block) (points region)

-- a block is present where some point of the dataset's box has its address in it
abbrev pub is_present : Placing → ℕ → Bool
is_present l block = has_point_in l.mask l.region l.bits block

-- the number of a block's file, which is that of the file's first block
abbrev pub file_of : Placing → ℕ → ℕ
file_of l block = l.per_file * (block / l.per_file)

-- the numbers, rising, of the files that have a present block
abbrev pub file_numbers : Placing → List ℕ
file_numbers l =
    filter (λ file. list_any (λ block. is_present l block && (file_of l block == file)) (range_with_len 0 (block_count l)))
    (range_with_len 0 (block_count l))

-- the present blocks of a file, rising
abbrev pub present_blocks : Placing → ℕ → List ℕ
present_blocks l file = filter (is_present l) (range_with_len file l.per_file)

-- the sample with an address: that of the box's point that has it, and zero bytes where no point of the box has. `samples`
-- are those of the box, of `size` bytes each
abbrev pub stored_sample : Placing → ℕ → List (List ℕ) → ℕ → List ℕ
stored_sample l size samples address =
    option_map_or (sample_at l.region samples) (find (λ p. hz_address l.mask p == address) (points l.region))
    (replicate size 0)

-- a block of a field: the samples with its addresses
abbrev pub block_of_samples : Placing → ℕ → List (List ℕ) → ℕ → List ℕ
block_of_samples l size samples block =
    flat_map (stored_sample l size samples) (range_with_len (block * 2 ^ l.bits) (2 ^ l.bits))
