-- The cause of a run by its status.
use Rattle.std.proofs.Common.{◌≡◌, ℕ, refl, arith}
use Rattle.idx_commands.specs.declared.causes.Cause.{Cause}
use Rattle.idx_commands.specs.declared.causes.Cause.TheVariants as causes
use Rattle.idx_commands.specs.Cause.{status_of}

pub done_is : (cause : Cause) → status_of cause ≡ 0 → cause ≡ causes.Done
done_is causes.Done zero = refl
done_is _ zero = absurd (omega (arith, zero))

pub usage_is : (cause : Cause) → status_of cause ≡ 1 → (at : ℕ) × (cause ≡ causes.Usage at)
usage_is (causes.Usage at) one = (at, refl)
usage_is _ one = absurd (omega (arith, one))

pub raw_fault_is : (cause : Cause) → status_of cause ≡ 4 → cause ≡ causes.RawFault
raw_fault_is causes.RawFault four = refl
raw_fault_is _ four = absurd (omega (arith, four))

pub store_fault_is : (cause : Cause) → status_of cause ≡ 5 → cause ≡ causes.StoreFault
store_fault_is causes.StoreFault five = refl
store_fault_is _ five = absurd (omega (arith, five))

pub sink_fault_is : (cause : Cause) → status_of cause ≡ 9 → cause ≡ causes.SinkFault
sink_fault_is causes.SinkFault nine = refl
sink_fault_is _ nine = absurd (omega (arith, nine))

pub door_fault_is : (cause : Cause) → status_of cause ≡ 12 → cause ≡ causes.DoorFault
door_fault_is causes.DoorFault twelve = refl
door_fault_is _ twelve = absurd (omega (arith, twelve))
