-- How many faults a bay counts where its files are written in rows.
use Rattle.std.specs.Prelude.{ℕ, ◌+◌, ◌≤◌, Option, Some}
use Rattle.idx_outside.specs.declared.bay_call.BayCall.{BayCall}
use Rattle.idx_outside.specs.declared.bay_call.BayCall.TheVariants.{Retire}

-- The files of a row are written side by side, by so many workers, and each draft that came back is given up: so many faults may be
-- counted at once where the call that counted the last one gives up a draft, and else one.
abbrev pub most_at_once : Option BayCall → ℕ → ℕ
most_at_once (Some Retire) workers = workers
most_at_once failed workers = 1

-- a fault is met once, or by one row
abbrev pub MeetsOnceOrRow : Option BayCall → ℕ → ℕ → ℕ → Type 0
MeetsOnceOrRow failed workers old new = new ≤ old + most_at_once failed workers
