-- The files that an iterator over them still gives.
use Rattle.std.specs.Prelude.{◌≡◌, ℕ, ◌-◌, ◌*◌, ◌^◌, ◌≤◌, ◌==◌, ◌&&◌, List, filter, length}
use Rattle.std.specs.List.{list_any, range_with_len}
use Rattle.idx_geom.specs.Region.{upper_ends}
use Rattle.idx_hz.specs.Mask.{HasAddress}
use Rattle.idx_layout.specs.Placing.{Placing, block_count, file_of, is_present}

-- the numbers, rising, from one on, of the files that have a present block
abbrev pub files_from : Placing → ℕ → List ℕ
files_from l first =
    filter (λ file. list_any (λ block. is_present l block && (file_of l block == file)) (range_with_len 0 (block_count l)))
    (range_with_len first (block_count l - first))

-- what an iterator over the files keeps: each point of the box has an address, and the first file that it has not tried
-- yet is none or begins a file
pub record AreFiles (l : Placing) (next : ℕ) : Type 0 where
  pub address : HasAddress l.mask (upper_ends l.region)
  pub bits : l.bits ≤ length l.mask
  pub some : 1 ≤ l.per_file
  pub few : l.per_file ≤ 2 ^ 16
  pub begins : (k : ℕ) × (next ≡ l.per_file * k)
