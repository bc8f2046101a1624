-- What a contract sees of a door over TCP.
use Rattle.std.specs.Prelude.{ℕ, ◌-◌, List, Option, None, Some}
use Rattle.idx_real.specs.Faults.{Faults}

-- the bytes of its address, how many links it still hands out, where that has an end, and the faults
pub record DoorState : Type 0 where
  pub address : List ℕ
  pub left : Option ℕ
  pub faults : Faults

-- after one more was handed out; none where none is left
abbrev pub one_less : Option ℕ → Option ℕ
one_less None = None
one_less (Some count) = Some (count - 1)
