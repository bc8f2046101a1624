-- What a question for the samples of a box between two levels is answered with.
use Rattle.std.specs.Prelude.{ℕ, Bool, ◌&&◌, nat_le, List, filter}
use Rattle.std.specs.List.{flat_map}
use Rattle.idx_geom.specs.Region.{points}
use Rattle.idx_geom.specs.Volume.{sample_at}
use Rattle.idx_hz.specs.Address.{level}

-- a point's level is one of lo to hi
abbrev pub has_level : List ℕ → ℕ → ℕ → List ℕ → Bool
has_level mask lo hi p = nat_le lo (level mask p) && nat_le (level mask p) hi

-- the answer: the samples, in row-major order, of the region's points whose level is lo to hi. The volume's samples
-- of one field are those of the box
abbrev pub answer : List ℕ → List (ℕ × ℕ) → List (List ℕ) → List (ℕ × ℕ) → ℕ → ℕ → List ℕ
answer mask box samples region lo hi = flat_map (sample_at box samples) (filter (has_level mask lo hi) (points region))
