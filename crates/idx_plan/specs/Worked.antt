-- Questions that the worked values name.
use Rattle.std.specs.Prelude.{ℕ, List}
use Rattle.idx_hall.specs.declared.key.Key.{Key}
use Rattle.idx_plan.specs.declared.ask.Ask.{Ask}

-- a question for the first field of the first step
abbrev pub question : List (ℕ × ℕ) → ℕ → ℕ → Ask
question region lo hi = record { time = 0; field = 0; region = region; lo = lo; hi = hi }

-- the key of a block of that field of that step
abbrev pub key_in : ℕ → Key
key_in block = record { time = 0; field = 0; block = block }
