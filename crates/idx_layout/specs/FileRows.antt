-- The rows that an iterator over the table of a file still gives.
use Rattle.std.specs.Prelude.{◌≡◌, ℕ, ◌+◌, ◌/◌, ◌%◌, ◌<◌, ◌≤◌}
use Rattle.idx_header.specs.Header.{HeaderValue, block_count}
use Rattle.idx_layout.specs.Files.{offset_of, row_count}
use Rattle.idx_layout.specs.OfHeader.{placing_of}

-- what an iterator over the rows of a file keeps: how many rows it gave, and where the block of the next one begins, which is
-- where the blocks of those rows end
pub record AreRows (h : HeaderValue) (file given offset : ℕ) : Type 0 where
  pub file_exists : file < block_count h
  pub within : given ≤ row_count (placing_of h)
  pub begins : given < row_count (placing_of h) →
      offset ≡ offset_of (placing_of h) file (given / h.blocks_per_file) (file + given % h.blocks_per_file)
