-- The coordinates of a grid along one axis, and multiples of strides.
use Rattle.std.specs.Prelude.{ℕ, ◌+◌, ◌-◌, ◌*◌, ◌/◌, ◌%◌, Bool, true, ◌&&◌, eqb, nat_lt, List, [], ◌∷◌, if◌then◌else◌}

-- the first number from `lo` on that is `first` more than a multiple of a step
abbrev pub first_from : ℕ → ℕ → ℕ → ℕ
first_from lo first step = lo + (first + step - lo % step) % step

-- how many numbers, each a step behind the one before, there are from `start` to `hi`
abbrev pub count_to : ℕ → ℕ → ℕ → ℕ
count_to start hi step = (hi + step - start) / step

-- how many bytes lie from one of so many coordinates to the next, a stride behind it, where neighbouring ones lie
-- `weight` bytes apart
abbrev pub step_of : ℕ → ℕ → ℕ → ℕ
step_of weight stride count = if nat_lt 1 count then stride * weight else 0

-- each coordinate is a multiple of its axis's stride, the first axis having the number k
abbrev pub on : (ℕ → ℕ) → ℕ → List ℕ → Bool
on s k [] = true
on s k (x ∷ xs) = on s (k + 1) xs && eqb (x % s k) 0
