-- Which lock it is.
use Rattle.std.specs.Prelude.{ℕ, List}

-- numbers that no other lock has
pub record LockId : Type 0 where
  pub marks : List ℕ
