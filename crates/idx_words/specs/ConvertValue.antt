-- The values that the words of the command `convert` stand for.
use Rattle.std.specs.Prelude.{ℕ, List}
use Rattle.idx_rowmajor.specs.declared.layout.Layout.{Layout}

-- the values of the header's keys as they were given, the step, how many ranks convert, and the order of the samples of a block
pub record ConvertValue : Type 0 where
  pub extent : List ℕ
  pub fields : List ℕ
  pub mask : List ℕ
  pub bits : List ℕ
  pub per_file : List ℕ
  pub template : List ℕ
  pub time : List ℕ
  pub step : ℕ
  pub ranks : ℕ
  pub layout : Layout
