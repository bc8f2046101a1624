-- The values that the words of the command `query` stand for.
use Rattle.std.specs.Prelude.{ℕ, List}

-- the number of the step, the field's name as it was given, the region, the coarsest and the finest level, and how many blocks the
-- cache keeps at most
pub record QueryValue : Type 0 where
  pub time : ℕ
  pub field : List ℕ
  pub region : List (ℕ × ℕ)
  pub lo : ℕ
  pub hi : ℕ
  pub cache : ℕ
