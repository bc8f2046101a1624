-- Refusals: the status and the text of their replies, and whether they are the last ones.
use Rattle.std.specs.Prelude.{ℕ, Bool, true, false, List, codes}
use Rattle.idx_plan.specs.declared.plan_fault.PlanFault.{PlanFault}
use Rattle.idx_plan.specs.declared.plan_fault.PlanFault.TheVariants as P
use Rattle.idx_query.specs.declared.query_fault.QueryFault.{QueryFault}
use Rattle.idx_query.specs.declared.query_fault.QueryFault.TheVariants as Q
use Rattle.idx_request.specs.declared.target_fault.TargetFault.{TargetFault}
use Rattle.idx_request.specs.declared.target_fault.TargetFault.TheVariants as T
use Rattle.idx_serve.specs.declared.refusal.Refusal.{Refusal}
use Rattle.idx_serve.specs.declared.refusal.Refusal.TheVariants as R

-- of a target that cannot be read
abbrev pub target_status : TargetFault → ℕ
target_status T.OtherPath = 404
target_status T.OtherDataset = 404
target_status fault = 400

abbrev pub target_text : TargetFault → List ℕ
target_text T.OtherPath = codes "OtherPath"
target_text T.BadText = codes "BadText"
target_text T.DoubleParameter = codes "DoubleParameter"
target_text T.NoAction = codes "NoAction"
target_text T.UnknownAction = codes "UnknownAction"
target_text T.NoDataset = codes "NoDataset"
target_text T.OtherDataset = codes "OtherDataset"
target_text T.NotRaw = codes "NotRaw"
target_text T.UnknownField = codes "UnknownField"
target_text T.BadTime = codes "BadTime"
target_text T.BadBox = codes "BadBox"
target_text T.BadLevels = codes "BadLevels"
target_text T.NoMemory = codes "NoMemory"

-- of a question that has no plan
abbrev pub plan_status : PlanFault → ℕ
plan_status (P.TooLarge bytes) = 413
plan_status fault = 400

abbrev pub plan_text : PlanFault → List ℕ
plan_text (P.OutsideVolume axis) = codes "OutsideVolume"
plan_text (P.BadLevels lo hi max) = codes "BadLevels"
plan_text (P.TooLarge bytes) = codes "TooLarge"
plan_text P.NoMemory = codes "NoMemory"

-- the status of the reply
abbrev pub status_of : Refusal → ℕ
status_of R.BadHead = 400
status_of R.HeadTooLarge = 431
status_of R.HasBody = 501
status_of R.NotGet = 405
status_of (R.Target fault) = target_status fault
status_of (R.Plan fault) = plan_status fault
status_of (R.NotPublished board) = 404
status_of R.StoreFault = 500
status_of R.NoMemory = 503

-- the text of the reply
abbrev pub text_of : Refusal → List ℕ
text_of R.BadHead = codes "BadHead"
text_of R.HeadTooLarge = codes "HeadTooLarge"
text_of R.HasBody = codes "HasBody"
text_of R.NotGet = codes "NotGet"
text_of (R.Target fault) = target_text fault
text_of (R.Plan fault) = plan_text fault
text_of (R.NotPublished board) = codes "NotPublished"
text_of R.StoreFault = codes "StoreFault"
text_of R.NoMemory = codes "NoMemory"

-- what follows the head cannot be read
abbrev pub ends : Refusal → Bool
ends R.BadHead = true
ends R.HeadTooLarge = true
ends R.HasBody = true
ends refusal = false

-- the refusal of a question without an answer
abbrev pub refusal_of : QueryFault → Refusal
refusal_of (Q.Plan fault) = R.Plan fault
refusal_of (Q.NotPublished board) = R.NotPublished board
refusal_of (Q.StoreFault faults) = R.StoreFault
refusal_of Q.NoMemory = R.NoMemory
