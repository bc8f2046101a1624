-- What a contract sees of a file as a source.
use Rattle.std.specs.Prelude.{ℕ, List, Option}
use Rattle.idx_real.specs.Faults.{Faults}

-- the bytes of its path, the file, once it is open, how many bytes were asked for, modulo 2 ^ 64, and the faults
pub record FileState (F : Type 0) : Type 0 where
  pub path : List ℕ
  pub file : Option F
  pub asked : ℕ
  pub faults : Faults
