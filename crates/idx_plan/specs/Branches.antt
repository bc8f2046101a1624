-- Blocks of one level whose numbers begin alike.
use Rattle.std.specs.Prelude.{ℕ, ◌+◌, ◌*◌, ◌^◌, ◌<◌, ◌≤◌, List, length, filter, map}
use Rattle.std.specs.List.{range_with_len}
use Rattle.idx_hall.specs.declared.key.Key.{Key}
use Rattle.idx_layout.specs.Placing.{has_point_in}
use Rattle.idx_plan.specs.declared.ask.Ask.{Ask}
use Rattle.idx_plan.specs.declared.branch.Branch.{Branch}
use Rattle.idx_plan.specs.Needed.{key_of}

-- the level of a branch's blocks
abbrev pub level_of : Branch → ℕ
level_of b = b.bits + b.height + b.digits + 1

-- its number is a 1 and then so many digits, and the mask has its level
pub record IsBranch (mask : List ℕ) (b : Branch) : Type 0 where
  pub from : 2 ^ b.digits ≤ b.number
  pub to : b.number < 2 ^ (b.digits + 1)
  pub within : level_of b ≤ length mask

-- the keys of its blocks that have a point of the region, rising
abbrev pub branch_keys : List ℕ → Ask → Branch → List Key
branch_keys mask ask b =
    map (key_of ask) (filter (has_point_in mask ask.region b.bits) (range_with_len (b.number * 2 ^ b.height) (2 ^ b.height)))
