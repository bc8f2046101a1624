-- How a run of `info` ends, by what is seen of the bay and of the sink.
use Rattle.std.specs.Prelude.{◌≡◌, ◌≢◌, ◌⊎◌, ℕ, ◌<◌, List, Option, Some, IfSome, IsErr, IsOk, IsSomeAnd, Ok}
use Rattle.idx_outside.specs.Cause.{MeetsOnce, NeverFalls, Rose}
use Rattle.idx_outside.specs.Contents.{appended, AppendsPrefix}
use Rattle.idx_outside.specs.declared.bay_call.BayCall.TheVariants as calls
use Rattle.idx_header.specs.declared.header_refusal.HeaderRefusal.{HeaderRefusal}
use Rattle.idx_header.specs.declared.header_refusal.HeaderRefusal.TheVariants as refusals
use Rattle.idx_header.specs.Header.{HeaderValue}
use Rattle.idx_header.specs.HeaderOf.{header_of}
use Rattle.idx_header.specs.OfBay.{IsFaultOf, IsRefusal}
use Rattle.idx_commands.specs.declared.causes.Cause.{Cause}
use Rattle.idx_commands.specs.declared.causes.Cause.TheVariants as causes
use Rattle.idx_commands.specs.Cause.{status_of}
use Rattle.idx_commands.specs.Seen.{BaySeen, IsUnchanged, SinkSeen, bay_after, bay_before, sink_after, sink_before}
use Rattle.idx_commands.specs.Summary.{summary}

-- A header text that is known reads, and this holds of its header.
abbrev pub KnownReads : Option (List ℕ) → (HeaderValue → Type 0) → Type 0
KnownReads known P = IfSome known (λ text. (h : HeaderValue) × ((header_of text ≡ Ok h) × P h))

-- The header text is known, and is refused.
abbrev pub HasBadHeader : Option (List ℕ) → Type 0
HasBadHeader known = IsSomeAnd known (λ text. IsErr (header_of text))

-- It is known, and reads.
abbrev pub HasGoodHeader : Option (List ℕ) → Type 0
HasGoodHeader known = IsSomeAnd known (λ text. IsOk (header_of text))

-- the cause of a run that ends since a bay gives no header
abbrev pub cause_of_refusal : HeaderRefusal → Cause
cause_of_refusal (refusals.Fault line kind) = causes.Header line kind
cause_of_refusal refusals.Outage = causes.StoreFault
cause_of_refusal refusals.NoMemory = causes.NoMemory

-- Why a bay gives no header, by the cause: what is known of its header text, and its counts of faults before and after.
abbrev pub GivesNone : Option (List ℕ) → ℕ → ℕ → Cause → Type 0
GivesNone known before after (causes.Header line kind) = IsRefusal IsFaultOf known before after (refusals.Fault line kind)
GivesNone known before after causes.StoreFault = IsRefusal IsFaultOf known before after refusals.Outage
GivesNone known before after causes.NoMemory = IsRefusal IsFaultOf known before after refusals.NoMemory
GivesNone known before after _ = ⊥

-- what each cause says; no other cause comes
abbrev pub InfoMeans : {B K : Type 0} → BaySeen B → SinkSeen K → Cause → Type 0
InfoMeans bay sink causes.Done =
    KnownReads (bay.header bay.old) (λ h. sink.contents sink.new ≡ appended (sink.contents sink.old) (summary h))
InfoMeans bay sink causes.SinkFault =
    Rose (sink_before sink) (sink_after sink)
    × KnownReads (bay.header bay.old) (λ h. AppendsPrefix (sink.contents sink.old) (sink.contents sink.new) (summary h))
InfoMeans bay sink cause =
    GivesNone (bay.header bay.old) (bay_before bay) (bay_after bay) cause × (sink.new ≡ sink.old)

-- how a run ends with this cause
pub record InfoEnds {B K : Type 0} (bay : BaySeen B) (sink : SinkSeen K) (cause : Cause) : Type 0 where
  -- what the cause says
  pub means : InfoMeans bay sink cause
  -- a header whose text is refused is refused, unless a call on the bay failed or there is not enough memory
  pub bad_header : HasBadHeader (bay.header bay.old) →
      (status_of cause ≡ 2) ⊎ ((status_of cause ≡ 5) ⊎ (status_of cause ≡ 11))
  -- where nothing is wrong and no fault was counted, all is written, unless there is not enough memory
  pub complete : HasGoodHeader (bay.header bay.old) → ¬ Rose (bay_before bay) (bay_after bay) →
      ¬ Rose (sink_before sink) (sink_after sink) → (status_of cause ≡ 0) ⊎ (status_of cause ≡ 11)
  -- a fault that was counted is answered
  pub store_answered : bay_before bay < bay_after bay → cause ≡ causes.StoreFault
  pub sink_answered : sink_before sink < sink_after sink → cause ≡ causes.SinkFault
  -- the call for the header is the only one of the bay that may have failed
  pub failed : status_of cause ≡ 5 → bay.failed bay.new ≡ Some calls.Header
  pub none_failed : status_of cause ≢ 5 → bay.failed bay.new ≡ bay.failed bay.old
  -- the bay was not changed, its header text and its committed files among it, and no count fell; each fault was
  -- met once
  pub unchanged : IsUnchanged bay
  pub bay_count : NeverFalls (bay_before bay) (bay_after bay)
  pub bay_once : MeetsOnce (bay_before bay) (bay_after bay)
  pub sink_count : NeverFalls (sink_before sink) (sink_after sink)
  pub sink_once : MeetsOnce (sink_before sink) (sink_after sink)
