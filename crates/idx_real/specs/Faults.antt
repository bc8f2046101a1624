-- What a contract sees of the faults of an object of the outside.
use Rattle.std.specs.Prelude.{◌≡◌, ◌≢◌, ℕ, Option, None}
use Rattle.std.specs.IoError.{error_kind}
use Rattle.std.specs.declared.io.Error.{Error}
use Rattle.std.specs.declared.io.ErrorKind.TheVariants.{UnexpectedEof}
use Rattle.idx_real.specs.declared.fault.Reason.{Reason}
use Rattle.idx_real.specs.declared.fault.Reason.TheVariants.{System, EndsEarly}

-- how many there were, and why the last one came
pub record Faults : Type 0 where
  pub count : ℕ
  pub last : Option Reason

-- no fault yet
abbrev pub no_faults : Faults
no_faults = record { count = 0; last = None }

-- The reason of a fault of the system: its answer, unless a read met the end of a file too early.
pub record IsReasonOf (error : Error) (reason : Reason) : Type 0 where
  pub early : error_kind error ≡ UnexpectedEof → reason ≡ EndsEarly
  pub other : error_kind error ≢ UnexpectedEof → reason ≡ System error
