-- How many bytes were asked of a reader, by a bound.
use Rattle.std.specs.Prelude.{ℕ, ◌≤◌}
use Rattle.idx_outside.specs.Cause.{AskedFor}

-- at most so many bytes were asked for, where they are counted modulo 2^64
pub record AskedAtMost (before after most : ℕ) : Type 0 where
  pub bytes : ℕ
  pub few : bytes ≤ most
  pub asked : AskedFor before after bytes
