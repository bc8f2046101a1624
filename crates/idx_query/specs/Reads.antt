-- How many reads an answer takes, by a bound.
use Rattle.std.specs.Prelude.{◌≡◌, ◌⊎◌, ℕ, ◌+◌, ◌%◌, ◌^◌, ◌≤◌}
use Rattle.idx_outside.specs.Cause.{MadeReads}

-- at most so many reads were made, where they are counted modulo 2^64
pub record ReadsAtMost (before after most : ℕ) : Type 0 where
  pub reads : ℕ
  pub few : reads ≤ most
  pub made : MadeReads before after reads

-- no read was made, or one
abbrev pub ReadsOnce : ℕ → ℕ → Type 0
ReadsOnce before after = (after ≡ before) ⊎ (after ≡ (before + 1) % 2 ^ 64)
