-- What a contract sees of a sink over a writer of std.
use Rattle.idx_real.specs.Faults.{Faults}

-- the writer, and the faults
pub record SinkState (W : Type 0) : Type 0 where
  pub out : W
  pub faults : Faults
