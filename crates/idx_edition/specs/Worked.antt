-- A file for the worked examples.
use Rattle.std.specs.Prelude.{ℕ, List, [], ◌∷◌, ◌++◌, replicate}
use Rattle.idx_table.specs.Row.{row_bytes}

-- forty zeros, the rows of two blocks of four bytes, and the blocks
abbrev pub worked_file : List ℕ
worked_file =
    replicate 40 0 ++ row_bytes (record { offset = 120; size = 4; flags = 0 }) ++ row_bytes (record { offset = 124; size = 4; flags = 0 })
    ++ (0 ∷ 2 ∷ 8 ∷ 10 ∷ []) ++ (1 ∷ 9 ∷ 3 ∷ 11 ∷ [])
