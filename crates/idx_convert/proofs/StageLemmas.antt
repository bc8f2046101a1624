-- What the stages of a conversion say, for the whole of it.
use Rattle.std.proofs.Common.{◌≡◌, ◌≢◌, ℕ, ◌<◌, ◌≤◌, List, Option, Some, None, Ok, Err, slice_index, inl, inr, refl, sym, ap, subst, ◌∙◌, arith}
use Rattle.std.specs.Prelude.{◌⊎◌, Result, IfErr, IfSome, IsSome, length}
use Rattle.std.specs.Result.{IsErrAnd}
use Rattle.idx_outside.specs.declared.bay_call.BayCall.{BayCall}
use Rattle.idx_outside.specs.declared.bay_call.BayCall.TheVariants as calls
use Rattle.idx_header.specs.Header.{HeaderValue, volume_bytes}
use Rattle.idx_header.specs.HeaderOf.{header_of}
use Rattle.idx_header.specs.Revisions.{IsRevisionOf}
use Rattle.idx_rowmajor.specs.declared.layout.Layout.{Layout}
use Rattle.idx_gather.specs.Gather.{HasVolume, IsCaused, IsFailedCall as IsFailedGather, LacksVolume, LeavesAs, LeavesFailed as LeavesFailedGather, SomeStepAddedAs}
use Rattle.idx_gather.specs.declared.gather_fault.GatherFault.{GatherFault}
use Rattle.idx_gather.specs.declared.gather_fault.GatherFault.TheVariants as gathers
use Rattle.idx_convert.specs.declared.convert_fault.ConvertFault.{ConvertFault}
use Rattle.idx_convert.specs.declared.convert_fault.ConvertFault.TheVariants as faults
use Rattle.idx_convert.specs.Convert.{Asks, AsksFor, Begins, BeginsAt, Converted, Ends, HasPut, IsCause, IsEarly, IsFailedCall, IsNext, IsRight, LeavesAsked, LeavesFailed, LeavesFiles, LeavesHeader, Takes}
use Rattle.idx_convert.specs.Counts.{SomeHigher}
use Rattle.idx_convert.specs.Known.{KeepsBay, Known}
use Rattle.idx_convert.specs.Stages.{IsFirstCall, IsStop, cause_of_gather}

-- What is so of a fault that is handed on is so of the answer.
pub handed_on : {T E : Type 0} (r : Result T E) (x : E) (P : Result T E → Type 0) → IsErrAnd r (λ y. y ≡ x) → P (Err x) → P r
handed_on (Ok done) x P gives holds = absurd gives
handed_on (Err y) x P gives holds = subst (λ e. P (Err e)) (sym gives) holds

-- A fault that comes late is none that can be known before the first change.
pub late_only : {T : Type 0} (P : Type 0) (result : Result T ConvertFault) (raw later : Option (List ℕ)) → later ≡ raw →
    IfErr result (λ fault. ¬ IsEarly later fault) → IfErr result (λ fault. IsEarly raw fault → P)
late_only P (Ok done) raw later same late = tt
late_only P (Err fault) raw later same late = λ early. absurd (late (subst (λ r. IsEarly r fault) (sym same) early))

-- counts that stay are not higher
pub none_higher : (before after : List ℕ) → after ≡ before → SomeHigher before after → ⊥
none_higher before after same (i, (within, more)) =
    let at : slice_index after i ≡ slice_index before i = ap (λ counts. slice_index counts i) same in omega (arith, at, more)

module _ (layout : Layout) (text : List ℕ) (step : ℕ) (k : Known) where
  header_kept : (fault : ConvertFault) → k.header_after ≡ k.header → LeavesHeader text k fault
  header_kept (faults.RawWrongSize want found) same = inl same
  header_kept faults.RawFault same = inl same
  header_kept faults.StoreFault same = inl same
  header_kept faults.NoMemory same = inl same
  header_kept fault same = same

  files_kept : (fault : ConvertFault) → k.files_after ≡ k.files → LeavesFiles layout text step k fault
  files_kept faults.StoreFault same = inl same
  files_kept fault same = same

  none_asked : (fault : ConvertFault) → k.asked_after ≡ k.asked_before → LeavesAsked k fault
  none_asked (faults.RawWrongSize want found) same = by_raw k.raw
    where
      by_raw : (raw : Option (List ℕ)) → IfSome raw (λ _. k.asked_after ≡ k.asked_before)
      by_raw None = tt
      by_raw (Some bytes) = same
  none_asked faults.RawFault same = tt
  none_asked faults.StoreFault same = tt
  none_asked faults.NoMemory same = tt
  none_asked fault same = same

  none_failed : (fault : ConvertFault) → ◌≢◌ {A = Result (Unit {0}) ConvertFault} (Err fault) (Err faults.StoreFault) → k.failed_after ≡ k.failed →
      LeavesFailed {T = Unit {0}} layout text step k (Err fault)
  none_failed faults.StoreFault other same = absurd (other refl)
  none_failed fault other same = same

  -- A refusal before anything is asked of the raw volume or of the bay.
  pub asked_ends : (fault : ConvertFault) → IsCause text step k fault → ◌≢◌ {A = Result (Unit {0}) ConvertFault} (Err fault) (Err faults.StoreFault) →
      KeepsBay k → k.asked_after ≡ k.asked_before → k.failed_after ≡ k.failed → k.raw_after ≡ k.raw_before → k.bay_after ≡ k.bay_before →
      Ends {T = Unit {0}} layout text step k (Err fault)
  asked_ends fault cause other keeps unasked unfailed raw_same bay_same =
      record {
        converted = tt;
        cause = cause;
        header = header_kept fault keeps.header;
        files = files_kept fault keeps.files;
        early = λ _. keeps;
        asked = none_asked fault unasked;
        unasked = λ _. unasked;
        begun = inl keeps.begun;
        failed = none_failed fault other unfailed;
        raw_answered = λ more. absurd (none_higher k.raw_before k.raw_after raw_same more);
        raw_quiet = tt;
        store_answered = λ more. absurd (omega (arith, bay_same, more));
        count = omega (arith, bay_same);
      }

  -- a raw volume that has the right length has no other one
  fits_lacks : (h : HeaderValue) (raw : Option (List ℕ)) → HasVolume h raw → LacksVolume h raw → ⊥
  fits_lacks h None fits lacks = absurd lacks
  fits_lacks h (Some bytes) fits lacks = lacks fits

  one_header : (g h : HeaderValue) → header_of text ≡ Ok g → header_of text ≡ Ok h → g ≡ h
  one_header g h first second = let same = sym first ∙ second in cc

  asks_none : (h : HeaderValue) → AsksFor text step h → HasVolume h k.raw → Asks text step (λ g. LacksVolume g k.raw) → k.asked_after ≡ k.asked_before
  asks_none h asked size (g, (other, lacks)) =
      absurd (fits_lacks h k.raw size (subst (λ x. LacksVolume x k.raw) (one_header g h other.reads asked.reads) lacks))

  -- The step was written under this header.
  pub written_ends : (h written : HeaderValue) → AsksFor text step h → Takes h step k.header k.files → HasVolume h k.raw →
      IsRevisionOf h written → IsNext h step k.files written → SomeStepAddedAs layout written step k.raw k.files k.files_after →
      HasPut text k → BeginsAt written step k →
      k.failed_after ≡ k.failed → k.raw_after ≡ k.raw_before → k.bay_after ≡ k.bay_before → Ends {T = Unit {0}} layout text step k (Ok tt)
  written_ends h written asked taken size revised next added put begun unfailed raw_same bay_same =
      record {
        converted = record {
          header = h;
          written = written;
          asked = asked;
          taken = taken;
          size = size;
          revised = revised;
          next = next;
          added = added;
          put = put;
          begun = begun;
        };
        cause = tt;
        header = tt;
        files = tt;
        early = tt;
        asked = tt;
        unasked = asks_none h asked size;
        begun = inr (h, (asked, (written, (revised, next, begun))));
        failed = unfailed;
        raw_answered = λ more. absurd (none_higher k.raw_before k.raw_after raw_same more);
        raw_quiet = raw_same;
        store_answered = λ more. absurd (omega (arith, bay_same, more));
        count = omega (arith, bay_same);
      }

  -- A refusal before the first change, under a header that was asked for.
  module _ (h : HeaderValue) (asked : AsksFor text step h) (keeps : KeepsBay k) where
    stop_cause : (fault : ConvertFault) → IsStop h step k fault → IsCause text step k fault
    stop_cause (faults.Header line kind) c = (c.0, inr (h, (asked, c.1)))
    stop_cause faults.NoStep c = absurd c
    stop_cause (faults.TooLarge bytes) c = absurd c
    stop_cause faults.OtherHeader c = (h, (asked, c))
    stop_cause faults.AlreadyPublished c = (h, (asked, c))
    stop_cause (faults.RawWrongSize want found) c = (h, (asked, c))
    stop_cause faults.RawFault c = (h, (asked, c))
    stop_cause faults.StoreFault c = (h, (asked, c.0))
    stop_cause faults.NoMemory c = tt

    first_call : (call : Option BayCall) → IsFirstCall h k call → IsFailedCall layout text step k call
    first_call (Some calls.Header) c = keeps
    first_call (Some calls.HasStep) c = (keeps, (h, (asked, c)))
    first_call call c = absurd c

    stop_failed : (fault : ConvertFault) → IsStop h step k fault → (◌≢◌ {A = ConvertFault} fault faults.StoreFault → k.failed_after ≡ k.failed) →
        LeavesFailed {T = Unit {0}} layout text step k (Err fault)
    stop_failed faults.StoreFault c unfailed = first_call k.failed_after c.1
    stop_failed (faults.Header line kind) c unfailed = unfailed (λ e. cc)
    stop_failed faults.NoStep c unfailed = unfailed (λ e. cc)
    stop_failed (faults.TooLarge bytes) c unfailed = unfailed (λ e. cc)
    stop_failed faults.OtherHeader c unfailed = unfailed (λ e. cc)
    stop_failed faults.AlreadyPublished c unfailed = unfailed (λ e. cc)
    stop_failed (faults.RawWrongSize want found) c unfailed = unfailed (λ e. cc)
    stop_failed faults.RawFault c unfailed = unfailed (λ e. cc)
    stop_failed faults.NoMemory c unfailed = unfailed (λ e. cc)

    pub stop_ends : (fault : ConvertFault) → IsStop h step k fault → k.asked_after ≡ k.asked_before →
        (◌≢◌ {A = ConvertFault} fault faults.StoreFault → k.failed_after ≡ k.failed) →
        (SomeHigher k.raw_before k.raw_after → fault ≡ faults.RawFault) → (k.bay_before < k.bay_after → fault ≡ faults.StoreFault) →
        k.bay_before ≤ k.bay_after → Ends {T = Unit {0}} layout text step k (Err fault)
    stop_ends fault stop unasked unfailed raw_more bay_more count =
        record {
          converted = tt;
          cause = stop_cause fault stop;
          header = header_kept fault keeps.header;
          files = files_kept fault keeps.files;
          early = λ _. keeps;
          asked = none_asked fault unasked;
          unasked = λ _. unasked;
          begun = inl keeps.begun;
          failed = stop_failed fault stop unfailed;
          raw_answered = λ more. ap Err (raw_more more);
          raw_quiet = tt;
          store_answered = λ more. ap Err (bay_more more);
          count = count;
        }

  -- A refusal of the gathering, behind the header's text and the beginning of the step.
  module _ (h written : HeaderValue) (asked : AsksFor text step h) (taken : Takes h step k.header k.files) (size : HasVolume h k.raw)
      (revised : IsRevisionOf h written) (next : IsNext h step k.files written) (put : HasPut text k) (begun : BeginsAt written step k) where
    added_converted : SomeStepAddedAs layout written step k.raw k.files k.files_after → Converted layout text step k
    added_converted added = record {
      header = h;
      written = written;
      asked = asked;
      taken = taken;
      size = size;
      revised = revised;
      next = next;
      added = added;
      put = put;
      begun = begun;
    }

    same_volume : volume_bytes written ≡ volume_bytes h
    same_volume = ap volume_bytes revised.same

    -- a raw volume of another length than it was found to have is not known
    unknown : (raw : Option (List ℕ)) (want found : ℕ) → HasVolume h raw → want ≡ volume_bytes written → found ≢ want → IfSome raw (λ bytes. found ≡ length bytes) → raw ≡ None
    unknown None want found fits wanted other is = refl
    unknown (Some bytes) want found fits wanted other is = absurd (other (is ∙ fits ∙ sym same_volume ∙ sym wanted))

    early_known : (raw : Option (List ℕ)) (P : Type 0) → raw ≡ None → IsSome raw → P
    early_known None P none some = absurd (cc)
    early_known (Some bytes) P none some = absurd (cc)

    asked_known : (raw : Option (List ℕ)) (P : Type 0) → raw ≡ None → IfSome raw (λ _. P)
    asked_known None P none = tt
    asked_known (Some bytes) P none = absurd (cc)

    begins : Asks text step (λ g. IsRight g step k × Begins g step k)
    begins = (h, (asked, ((taken, size), (written, (revised, next, begun)))))

    gathered_cause : (fault : GatherFault) → IsCaused written k.raw k.raw_before k.raw_after k.bay_before k.bay_after fault → IsCause text step k (cause_of_gather fault)
    gathered_cause (gathers.RawWrongSize want found) c = (h, (asked, (taken, c.0 ∙ same_volume, c.1, c.2)))
    gathered_cause (gathers.RawFault rank count) c = (h, (asked, (taken, (rank, (c.0.within, c.0.rose)))))
    gathered_cause (gathers.StoreFault count) c = (h, (asked, c.2))
    gathered_cause gathers.NoMemory c = tt

    gathered_header : (fault : GatherFault) → IsCaused written k.raw k.raw_before k.raw_after k.bay_before k.bay_after fault → LeavesHeader text k (cause_of_gather fault)
    gathered_header (gathers.RawWrongSize want found) c = inr (unknown k.raw want found size c.0 c.1 c.2, put)
    gathered_header (gathers.RawFault rank count) c = inr put
    gathered_header (gathers.StoreFault count) c = inr put
    gathered_header gathers.NoMemory c = inr put

    added_or_not : (k.files_after ≡ k.files) ⊎ SomeStepAddedAs layout written step k.raw k.files k.files_after → (k.files_after ≡ k.files) ⊎ Converted layout text step k
    added_or_not (inl same) = inl same
    added_or_not (inr added) = inr (added_converted added)

    gathered_files : (fault : GatherFault) → LeavesAs layout written step k.raw k.files k.files_after fault → LeavesFiles layout text step k (cause_of_gather fault)
    gathered_files (gathers.RawWrongSize want found) same = same
    gathered_files (gathers.RawFault rank count) same = same
    gathered_files (gathers.StoreFault count) left = added_or_not left
    gathered_files gathers.NoMemory same = same

    gathered_early : (fault : GatherFault) → IsCaused written k.raw k.raw_before k.raw_after k.bay_before k.bay_after fault → IsEarly k.raw (cause_of_gather fault) → KeepsBay k
    gathered_early (gathers.RawWrongSize want found) c early = early_known k.raw (KeepsBay k) (unknown k.raw want found size c.0 c.1 c.2) early
    gathered_early (gathers.RawFault rank count) c early = absurd early
    gathered_early (gathers.StoreFault count) c early = absurd early
    gathered_early gathers.NoMemory c early = absurd early

    gathered_asked : (fault : GatherFault) → IsCaused written k.raw k.raw_before k.raw_after k.bay_before k.bay_after fault → LeavesAsked k (cause_of_gather fault)
    gathered_asked (gathers.RawWrongSize want found) c = asked_known k.raw (k.asked_after ≡ k.asked_before) (unknown k.raw want found size c.0 c.1 c.2)
    gathered_asked (gathers.RawFault rank count) c = tt
    gathered_asked (gathers.StoreFault count) c = tt
    gathered_asked gathers.NoMemory c = tt

    failed_call : (left : (k.files_after ≡ k.files) ⊎ SomeStepAddedAs layout written step k.raw k.files k.files_after) (call : Option BayCall) → IsFailedGather k.files k.files_after call → IsFailedCall layout text step k call
    failed_call left (Some calls.Create) same = (same, put, begins)
    failed_call left (Some calls.Retire) same = (same, put, begins)
    failed_call left (Some calls.Commit) done = (added_or_not left, put, begins)
    failed_call left call wrong = absurd wrong

    gathered_failed : {T : Type 0} (r : Result T GatherFault) (fault : GatherFault) → r ≡ Err fault → LeavesAs layout written step k.raw k.files k.files_after fault →
        LeavesFailedGather k.files k.files_after k.failed k.failed_after r → LeavesFailed {T = Unit {0}} layout text step k (Err (cause_of_gather fault))
    gathered_failed r (gathers.RawWrongSize want found) is left failed = subst (LeavesFailedGather k.files k.files_after k.failed k.failed_after) is failed
    gathered_failed r (gathers.RawFault rank count) is left failed = subst (LeavesFailedGather k.files k.files_after k.failed k.failed_after) is failed
    gathered_failed r (gathers.StoreFault count) is left failed = failed_call left k.failed_after (subst (LeavesFailedGather k.files k.files_after k.failed k.failed_after) is failed)
    gathered_failed r gathers.NoMemory is left failed = subst (LeavesFailedGather k.files k.files_after k.failed k.failed_after) is failed

    raw_told : (fault : GatherFault) → IsCaused written k.raw k.raw_before k.raw_after k.bay_before k.bay_after fault → SomeHigher k.raw_before k.raw_after → cause_of_gather fault ≡ faults.RawFault
    raw_told (gathers.RawWrongSize want found) c more = absurd (none_higher k.raw_before k.raw_after c.3 more)
    raw_told (gathers.RawFault rank count) c more = refl
    raw_told (gathers.StoreFault count) c more = absurd (none_higher k.raw_before k.raw_after c.3 more)
    raw_told gathers.NoMemory c more = absurd (none_higher k.raw_before k.raw_after c.1 more)

    store_told : (fault : GatherFault) → IsCaused written k.raw k.raw_before k.raw_after k.bay_before k.bay_after fault → k.bay_before < k.bay_after → cause_of_gather fault ≡ faults.StoreFault
    store_told (gathers.RawWrongSize want found) c more = absurd (omega (arith, c.4, more))
    store_told (gathers.RawFault rank count) c more = absurd (omega (arith, c.1, more))
    store_told (gathers.StoreFault count) c more = refl
    store_told gathers.NoMemory c more = absurd (omega (arith, c.2, more))

    pub gathered_ends : {T : Type 0} (r : Result T GatherFault) (fault : GatherFault) → r ≡ Err fault → IsCaused written k.raw k.raw_before k.raw_after k.bay_before k.bay_after fault → LeavesAs layout written step k.raw k.files k.files_after fault →
        LeavesFailedGather k.files k.files_after k.failed k.failed_after r → k.bay_before ≤ k.bay_after → Ends {T = Unit {0}} layout text step k (Err (cause_of_gather fault))
    gathered_ends r fault is caused left failed count =
        record {
          converted = tt;
          cause = gathered_cause fault caused;
          header = gathered_header fault caused;
          files = gathered_files fault left;
          early = gathered_early fault caused;
          asked = gathered_asked fault caused;
          unasked = asks_none h asked size;
          begun = inr (h, (asked, (written, (revised, next, begun))));
          failed = gathered_failed r fault is left failed;
          raw_answered = λ more. ap Err (raw_told fault caused more);
          raw_quiet = tt;
          store_answered = λ more. ap Err (store_told fault caused more);
          count = count;
        }
