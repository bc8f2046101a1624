-- The memory of a dock: what `deliver` and `write` need.
use Rattle.std.specs.Prelude.{◌≡◌, ℕ, List, []}

-- a count for each awaited piece, and an empty buffer
pub record HasRoom (awaited counts : ℕ) (buffer : List ℕ) : Type 0 where
  pub counts_is : counts ≡ awaited
  pub empty : buffer ≡ []
