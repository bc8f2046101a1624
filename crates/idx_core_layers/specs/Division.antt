-- A dataset and what its box is divided into.
use Rattle.std.specs.Prelude.{ℕ}
use Rattle.idx_header.specs.Header.{HeaderValue}
use Rattle.idx_events.specs.Setting.{Setting}
use Rattle.idx_core_model.specs.Layers.{setting_of}

-- the header, how many last digits of the Z addresses of a piece's points are free, and how many ranks there are
pub record DivisionValue : Type 0 where
  pub header : HeaderValue
  pub digits : ℕ
  pub ranks : ℕ

-- the layers of the dataset
abbrev pub layers_of : DivisionValue → Setting
layers_of d = setting_of d.header d.digits d.ranks
