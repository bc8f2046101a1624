-- Files for the worked examples.
use Rattle.std.specs.Prelude.{ℕ, List, ◌++◌, replicate}
use Rattle.idx_table.specs.Row.{row_bytes}

-- forty zeros, the rows of two blocks of four bytes, and these bytes
abbrev pub with_blocks : List ℕ → List ℕ
with_blocks blocks =
    replicate 40 0 ++ row_bytes (record { offset = 120; size = 4; flags = 0 })
    ++ row_bytes (record { offset = 124; size = 4; flags = 0 }) ++ blocks
