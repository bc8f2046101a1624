-- How many blocks a hall of a dataset keeps.
use Rattle.std.specs.Prelude.{ℕ, ◌/◌, ◌^◌, length, map, max, min}
use Rattle.std.specs.List.{fold, range_with_len}
use Rattle.idx_header.specs.Header.{HeaderValue, block_bytes}

-- how many bytes the largest block of a dataset has; each has at least 1
abbrev pub largest_block : HeaderValue → ℕ
largest_block h = fold max 1 (map (block_bytes h) (range_with_len 0 (length h.fields)))

-- so many as are wished for, but no more than there are largest blocks in 2^31 bytes
abbrev pub capacity_for : HeaderValue → ℕ → ℕ
capacity_for h wish = min wish (2 ^ 31 / largest_block h)
