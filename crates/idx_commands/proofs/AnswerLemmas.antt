-- What a run of `query` comes to by what extracting its answer came to.
use Rattle.std.proofs.Common.{◌≡◌, ◌≢◌, ℕ, Result, Ok, Err, is_ok, refl, ap, sym, ◌∙◌}
use Rattle.std.proofs.lemmas.Bool.{false≢true}
use Rattle.idx_plan.specs.declared.plan_fault.PlanFault.TheVariants as plans
use Rattle.idx_words.specs.QueryValue.{QueryValue}
use Rattle.idx_extract.specs.declared.extract_fault.ExtractFault.{ExtractFault}
use Rattle.idx_extract.specs.declared.extract_fault.ExtractFault.TheVariants as faults
use Rattle.idx_extract.specs.Extract.{IsUnread}
use Rattle.idx_commands.specs.Cause.{status_of}
use Rattle.idx_commands.specs.QueryRun.{HasCause, IsUnreadCause, QueryMeans, cause_of_extract}
use Rattle.idx_commands.specs.Seen.{BaySeen, ReaderCounts, SinkSeen}

-- a refusal that has its cause is what its cause says, where nothing was written
pub means_of_fault : {B K : Type 0} (q : QueryValue) (bay : BaySeen B) (counts : ReaderCounts) (sink : SinkSeen K) (fault : ExtractFault) →
    HasCause q bay counts fault → sink.new ≡ sink.old → QueryMeans q bay counts sink (cause_of_extract q.time fault)
means_of_fault q bay counts sink (faults.Header line kind) cause silent = (cause, silent)
means_of_fault q bay counts sink faults.OtherAxes cause silent = (cause, silent)
means_of_fault q bay counts sink faults.UnknownField cause silent = (cause, silent)
means_of_fault q bay counts sink (faults.Plan (plans.OutsideVolume axis)) cause silent = (cause, silent)
means_of_fault q bay counts sink (faults.Plan (plans.BadLevels lo hi max)) cause silent = (cause, silent)
means_of_fault q bay counts sink (faults.Plan (plans.TooLarge bytes)) cause silent = (cause, silent)
means_of_fault q bay counts sink (faults.Plan plans.NoMemory) cause silent = silent
means_of_fault q bay counts sink faults.NotPublished cause silent = (refl, cause, silent)
means_of_fault q bay counts sink (faults.BadTable file row kind) cause silent = (cause, silent)
means_of_fault q bay counts sink faults.StoreFault cause silent = (cause, silent)
means_of_fault q bay counts sink faults.NoMemory cause silent = silent

-- a cause that comes before the first read is of a fault that does
pub unread_of_fault : (step : ℕ) (fault : ExtractFault) → IsUnreadCause (cause_of_extract step fault) → IsUnread fault
unread_of_fault step (faults.Header line kind) early = tt
unread_of_fault step faults.OtherAxes early = tt
unread_of_fault step faults.UnknownField early = tt
unread_of_fault step (faults.Plan fault) early = tt
unread_of_fault step faults.NotPublished early = tt
unread_of_fault step (faults.BadTable file row kind) early = early
unread_of_fault step faults.StoreFault early = early
unread_of_fault step faults.NoMemory early = early

abbrev fault_in : {T : Type 0} → Result T ExtractFault → ExtractFault
fault_in (Ok value) = faults.NoMemory
fault_in (Err fault) = fault

-- a cause that is no fault of the store is of no such fault
pub not_store : {T : Type 0} (step : ℕ) (result : Result T ExtractFault) (fault : ExtractFault) → result ≡ Err fault →
    status_of (cause_of_extract step fault) ≢ 5 → result ≢ Err faults.StoreFault
not_store step result fault is other store = other (ap (λ r. status_of (cause_of_extract step (fault_in r))) (sym is ∙ store))

pub ok_not_store : {T : Type 0} (result : Result T ExtractFault) (value : T) → result ≡ Ok value → result ≢ Err faults.StoreFault
ok_not_store result value is store = false≢true (sym (ap is_ok store) ∙ ap is_ok is)
