-- A question by the name of its field, whatever dataset it is asked of.
use Rattle.std.specs.Prelude.{ℕ, List}

-- the number of the step, the field's name, the region, and the coarsest and the finest level
pub record QuestionValue : Type 0 where
  pub time : ℕ
  pub field : List ℕ
  pub region : List (ℕ × ℕ)
  pub lo : ℕ
  pub hi : ℕ
