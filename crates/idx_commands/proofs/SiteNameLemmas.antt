-- The part of a path behind its last `/`.
use Rattle.std.proofs.Common.{◌≡◌, ℕ, ◌+◌, List, Option, Some, None, take, drop, length, refl, option_map, unwrap_or}
use Rattle.std.specs.Path.{rfind_below, rsplit_once, slash}
use Rattle.idx_commands.specs.SiteName.{last_part}

-- where the part behind a last `/` begins that stands at this place, if there is one
abbrev pub part_from : Option ℕ → ℕ
part_from None = 0
part_from (Some at) = at + 1

-- the path before and behind a place
abbrev split_at : List ℕ → ℕ → List ℕ × List ℕ
split_at path at = (take at path, drop (at + 1) path)

part_behind : (path : List ℕ) (at : Option ℕ) →
    drop (part_from at) path ≡ unwrap_or (option_map (λ split. split.1) (option_map (split_at path) at)) path
part_behind path None = refl
part_behind path (Some at) = refl

-- the part behind the last `/` begins behind its place
pub part_is : (path : List ℕ) → drop (part_from (rfind_below slash path (length path))) path ≡ last_part path
unfolding rsplit_once
part_is path = part_behind path (rfind_below slash path (length path))
