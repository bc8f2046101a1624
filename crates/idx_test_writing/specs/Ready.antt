-- What a step is gathered into, and the seat at which it is published.
use Rattle.std.specs.Prelude.{◌≡◌, ℕ, true, [], None, Option, Some}
use Rattle.std.specs.Coded.{×_prop, le_prop}
use native.Mathlib.Nat.{ℕ_set}
use Rattle.idx_header.specs.Header.{HasTime, HasTimeAmong, HeaderValue}
use Rattle.idx_header.specs.declared.steps.Steps.{Steps}
use Rattle.idx_header.specs.Names.{step_folder}
use Rattle.idx_layout.specs.Shape.{shape_of}
use Rattle.idx_turn.specs.LockId.{LockId}
use Rattle.idx_lock.specs.Seats.{SeatValue}
use Rattle.idx_memory.specs.Memory.{BayState}
use Rattle.idx_gather.specs.Gather.{HasFolder}

-- in an empty bay this step is begun
pub record IsBegun (h : HeaderValue) (time : ℕ) (bay : BayState) : Type 0 where
  pub folder : HasFolder h time
  pub begun : bay.begun ≡ step_folder h time
  pub files : bay.files ≡ []

-- that a header has a step is known in one way alone
HasTimeAmong-prop : (steps : Option Steps) (step : ℕ) → IsProp (HasTimeAmong steps step)
HasTimeAmong-prop None step = ℕ_set step 0
HasTimeAmong-prop (Some steps) step = ×_prop le_prop le_prop

pub HasTime-prop : (h : HeaderValue) (step : ℕ) → IsProp (HasTime h step)
HasTime-prop h step = HasTimeAmong-prop h.steps step

-- the writer's seat of this lock stands for halls of the header
pub record IsWriter (lock : LockId) (h : HeaderValue) (seat : SeatValue) : Type 0 where
  pub of : seat.lock ≡ lock
  pub writes : seat.writer ≡ true
  pub shape : seat.seen.shape ≡ shape_of h
