-- What a contract sees of a link over TCP.
use Rattle.std.specs.Prelude.{◌≡◌, ℕ, Bool}
use Rattle.std.specs.declared.time.Duration.{Duration}
use Rattle.idx_real.specs.Faults.{Faults}

-- The stream, how many bytes are still read of it at most, whether it has ended, for how long the system lets a read wait,
-- and the faults.
pub record LinkState (S : Type 0) : Type 0 where
  pub stream : S
  pub left : ℕ
  pub ended : Bool
  pub waits : Duration
  pub faults : Faults

-- how many bytes of a link are read at most: 8 MiB
abbrev pub most_read : ℕ
most_read = 8388608

-- what is read of a link, and for how long a read waits, is as before
pub record ReadsAsBefore {S : Type 0} (old new : LinkState S) : Type 0 where
  pub left : new.left ≡ old.left
  pub ended : new.ended ≡ old.ended
  pub waits : new.waits ≡ old.waits
