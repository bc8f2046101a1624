-- Calls of a bay: which of them counted the last fault.
use Rattle.std.specs.Prelude.{Bool, true, false, Option, Some, Result, Ok, Err, if◌then◌else◌}
use Rattle.idx_outside.specs.declared.bay_call.BayCall.{BayCall}
use Rattle.idx_outside.specs.declared.bay_fault.BayFault.{BayFault}
use Rattle.idx_outside.specs.declared.bay_fault.BayFault.TheVariants.{Outage, NoMemory}

-- whether a call of a bay counted no fault, by its answer
abbrev pub counts_none : {T : Type 0} → Result T BayFault → Bool
counts_none (Ok _) = true
counts_none (Err Outage) = false
counts_none (Err NoMemory) = true

-- The last call that counted a fault, behind one more call: that one, where it was not quiet.
abbrev pub last_failed : BayCall → Bool → Option BayCall → Option BayCall
last_failed call quiet before = if quiet then before else Some call
