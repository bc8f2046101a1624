-- A block's bytes, its samples in hierarchical order or in the row-major order of their points (the two layouts of the
-- blocks of IDX files).
use Rattle.std.specs.Prelude.{ℕ, ◌*◌, ◌^◌, List, take, drop}
use Rattle.std.specs.List.{flat_map, range_with_len}
use Rattle.idx_rowmajor.specs.RowPlace.{row_place, offset_at}

-- the sample of so many bytes at a place
abbrev pub sample_of : ℕ → List ℕ → ℕ → List ℕ
sample_of size bytes place = take size (drop (place * size) bytes)

-- a block in hierarchical order, of one in row-major order: at each offset stands the sample of its row place
unfoldable pub hz_from_rows : List ℕ → ℕ → ℕ → ℕ → ℕ → List ℕ → List ℕ
hz_from_rows mask axes bits block size bytes =
    flat_map (λ offset. sample_of size bytes (row_place mask axes bits block offset)) (range_with_len 0 (2 ^ bits))

-- and back: at each row place stands the sample of its offset
unfoldable pub rows_from_hz : List ℕ → ℕ → ℕ → ℕ → ℕ → List ℕ → List ℕ
rows_from_hz mask axes bits block size bytes =
    flat_map (λ place. sample_of size bytes (offset_at mask axes bits block place)) (range_with_len 0 (2 ^ bits))
