-- The rounds in which the blocks of a question are looked for, so that no more of them than some bytes are in memory at a time.
use Rattle.std.specs.Prelude.{ℕ, ◌+◌, ◌-◌, ◌*◌, ◌/◌, ◌^◌, max, List, length, map, take, drop}
use Rattle.std.specs.List.{range_with_len}
use Rattle.idx_hall.specs.declared.key.Key.{Key}
use Rattle.idx_header.specs.Header.{HeaderValue, block_bytes}
use Rattle.idx_plan.specs.Needed.{needed_keys}
use Rattle.idx_plan.specs.declared.ask.Ask.{Ask}

-- how many blocks of a field a round has at most: as many as have 2^26 bytes, and at least one
abbrev pub width_for : HeaderValue → ℕ → ℕ
width_for h field = max 1 (2 ^ 26 / block_bytes h field)

-- into how many lists of at most so many items so many items are cut: into one, where there are none
abbrev pub cut_count : ℕ → ℕ → ℕ
cut_count width many = max 1 ((many + (width - 1)) / width)

-- the list of a number, counted from 0, of those into which keys are cut
abbrev pub cut_at : ℕ → List Key → ℕ → List Key
cut_at width keys number = take width (drop (number * width) keys)

-- keys cut in order into lists of so many, of which the last may have fewer
abbrev pub cut_into : ℕ → List Key → List (List Key)
cut_into width keys = map (cut_at width keys) (range_with_len 0 (cut_count width (length keys)))

-- the keys of each round of a question; one round without keys, where none is needed
abbrev pub rounds : HeaderValue → Ask → List (List Key)
rounds h ask = cut_into (width_for h ask.field) (needed_keys h ask)
