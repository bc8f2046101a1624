-- The shape of the steps of a dataset.
use Rattle.std.specs.Prelude.{ℕ, List}

-- how many blocks there are, and how many bytes a block of each field has
pub record Shape : Type 0 where
  pub blocks : ℕ
  pub lengths : List ℕ
