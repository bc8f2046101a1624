-- Values for the worked examples.
use Rattle.std.specs.Prelude.{ℕ, List, [], ◌∷◌}
use Rattle.std.specs.List.{range_with_len}
use Rattle.idx_geom.specs.Volume.{volume_of}
use Rattle.idx_layout.specs.Placing.{Placing}

-- a box under a mask of two axes with two bits each, with blocks of four samples and two blocks in a file
abbrev pub square : List (ℕ × ℕ) → List ℕ → Placing
square region sizes = record { mask = 0 ∷ 1 ∷ 0 ∷ 1 ∷ []; region = region; bits = 2; per_file = 2; sizes = sizes }

-- the volume of one field whose sample number n, of so many, is the byte n
abbrev pub of_bytes : ℕ → List (List (List ℕ))
of_bytes count = volume_of (1 ∷ []) count (range_with_len 0 count)
