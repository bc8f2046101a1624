-- What a question asks, and its faults.
use Rattle.std.proofs.Common.{◌≡◌, ◌≢◌, ℕ, ◌<◌, ◌↔◌, Bool, true, false, if◌then◌else◌, List, length, Option, Some, None, refl, sym, ap, subst, IfSome, inr}
use Rattle.std.specs.Prelude.{Ok}
use Rattle.idx_outside.specs.declared.mem_file.MemFile.{MemFile}
use Rattle.idx_fields.specs.Field.{field_at}
use Rattle.idx_header.specs.Header.{HeaderValue}
use Rattle.idx_header.specs.HeaderOf.{header_of}
use Rattle.idx_plan.specs.Needed.{answer_bytes, fault_by_axis, outside_axis, plan_fault}
use Rattle.idx_plan.specs.declared.ask.Ask.{Ask}
use Rattle.idx_plan.specs.declared.plan_fault.PlanFault.{PlanFault}
use Rattle.idx_plan.specs.declared.plan_fault.PlanFault.TheVariants as plans
use Rattle.idx_plan.specs.QuestionValue.{QuestionValue}
use Rattle.idx_extract.specs.declared.extract_fault.ExtractFault.{ExtractFault}
use Rattle.idx_extract.specs.declared.extract_fault.ExtractFault.TheVariants as faults
use Rattle.idx_extract.specs.Extract.{IsAsk, IsCause, IsCauseUnder, IsStop, Known}
use Rattle.idx_extract.specs.Stages.{fault_of_plan}

-- a fault that is not want of memory, or none
abbrev Fed : Option PlanFault → Type 0
Fed (Some plans.NoMemory) = ⊥
Fed _ = Unit {0}

either : (first second : Bool) (a b : PlanFault) → Fed (Some a) → Fed (Some b) → Fed (if first then Some a else if second then Some b else None)
either true second a b fa fb = fa
either false true a b fa fb = fb
either false false a b fa fb = tt

fed_by_axis : (h : HeaderValue) (ask : Ask) (axis : Option ℕ) → Fed (fault_by_axis h ask axis)
fed_by_axis h ask (Some axis) = tt
fed_by_axis h ask None =
    either _ _ (plans.BadLevels ask.lo ask.hi (length h.mask)) (plans.TooLarge (answer_bytes h ask)) tt tt

-- no question has want of memory as its fault
pub never_starved : (h : HeaderValue) (ask : Ask) → plan_fault h ask ≢ Some plans.NoMemory
never_starved h ask same = subst Fed same (fed_by_axis h ask (outside_axis 0 ask.region h.box))

-- the fault of what a question asks is answered as it is
pub plan_stops : (h : HeaderValue) (q : QuestionValue) (files : Option (List MemFile)) (ask : Ask) → IsAsk h q ask → (fault : PlanFault) → plan_fault h ask ≡ Some fault →
    IsStop h q files (fault_of_plan fault)
plan_stops h q files ask asked (plans.OutsideVolume axis) same = (ask, (asked, same))
plan_stops h q files ask asked (plans.BadLevels lo hi max) same = (ask, (asked, same))
plan_stops h q files ask asked (plans.TooLarge bytes) same = (ask, (asked, same))
plan_stops h q files ask asked plans.NoMemory same = absurd (never_starved h ask same)

-- a stop is a cause
pub stop_is_cause : (h : HeaderValue) (q : QuestionValue) (k : Known) (fault : ExtractFault) → IsStop h q k.files fault → IsCauseUnder h q k fault
stop_is_cause h q k (faults.Header line kind) stop = stop
stop_is_cause h q k faults.OtherAxes stop = stop
stop_is_cause h q k faults.UnknownField stop = stop
stop_is_cause h q k (faults.Plan fault) stop = stop
stop_is_cause h q k faults.NotPublished stop = stop
stop_is_cause h q k (faults.BadTable file row kind) stop = stop
stop_is_cause h q k faults.StoreFault stop = absurd stop
stop_is_cause h q k faults.NoMemory stop = absurd stop

-- a cause under the header of a text is one under the text, where that is known
pub cause_of_text : (k : Known) (h : HeaderValue) (q : QuestionValue) (fault : ExtractFault) → IfSome k.header (λ text. header_of text ≡ Ok h) →
    IsCauseUnder h q k fault → IsCause q k fault
cause_of_text k h q (faults.Header line kind) reads cause = absurd cause
cause_of_text k h q faults.OtherAxes reads cause = (h, (reads, cause))
cause_of_text k h q faults.UnknownField reads cause = (h, (reads, cause))
cause_of_text k h q (faults.Plan fault) reads cause = (h, (reads, cause))
cause_of_text k h q faults.NotPublished reads cause = (h, (reads, cause))
cause_of_text k h q (faults.BadTable file row kind) reads cause = (h, (reads, cause))
cause_of_text k h q faults.StoreFault reads cause = inr (h, (reads, cause))
cause_of_text k h q faults.NoMemory reads cause = tt

-- the field that is found is the one of the name
pub is_ask : (h : HeaderValue) (q : QuestionValue) (field : ℕ) → length q.region ≡ length h.box →
    ((i : ℕ) → (Some field ≡ Some i) ↔ ((i < length h.fields) × ((field_at h.fields i).name ≡ q.field))) →
    IsAsk h q (record { time = q.time; field = field; region = q.region; lo = q.lo; hi = q.hi })
is_ask h q field axes found =
    let both = found field in
    record {
      axes = axes;
      field = (both.0 refl).0;
      named = (both.0 refl).1;
      only = λ i below same. let other = found i in same_number i (other.1 (below, same));
      same = refl;
    }
  where
    number : Option ℕ → ℕ
    number (Some n) = n
    number None = 0

    same_number : (i : ℕ) → Some field ≡ Some i → i ≡ field
    same_number i same = sym (ap number same)
