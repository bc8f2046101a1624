-- The blocks that the questions of a drill need: block 0 for each level whose samples it has, and for each finer level as many
-- blocks as there were below it.
use Rattle.std.specs.Prelude.{ℕ, zero, suc, ◌-◌, ◌^◌, nat_le, if◌then◌else◌, List, [], ◌∷◌}
use Rattle.std.specs.List.{range_with_len}
use Rattle.idx_hall.specs.declared.key.Key.{Key}
use Rattle.idx_drill_model.specs.Drill.{drill_bits}

-- how many blocks the levels below a level need, which is the number of the first block that none of them does
abbrev pub blocks_below : ℕ → ℕ → ℕ
blocks_below n zero = 0
blocks_below n (suc level) = 2 ^ (level - drill_bits n)

-- the blocks that a level needs
abbrev pub blocks_at : ℕ → ℕ → List ℕ
blocks_at n level =
    if nat_le level (drill_bits n) then 0 ∷ [] else range_with_len (blocks_below n level) (blocks_below n level)

-- the blocks that a level needs and no coarser level does
abbrev pub new_blocks : ℕ → ℕ → List ℕ
new_blocks n zero = 0 ∷ []
new_blocks n (suc level) =
    if nat_le (suc level) (drill_bits n) then [] else range_with_len (blocks_below n (suc level)) (blocks_below n (suc level))

-- the key of a block of the drill's field at its timestep
abbrev pub drill_key : ℕ → Key
drill_key block = record { time = 0; field = 0; block = block }
