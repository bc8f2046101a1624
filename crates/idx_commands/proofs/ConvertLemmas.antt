-- What a run of `convert` comes to where what it meets is known.
use Rattle.std.proofs.Common.{◌≡◌, ◌≢◌, ◌⊎◌, ℕ, ◌<◌, List, [], drop, length, min, Option, Some, None, Ok, Err, IsErr, IsSome, IfSome, IsSomeAnd, inl, inr, refl, sym, ap, ◌∙◌, subst, arith}
use Rattle.std.specs.Prelude.{Result}
use Rattle.std.proofs.lemmas.Bool.{false≢true}
use Rattle.idx_outside.specs.Cause.{NeverFalls, Rose}
use Rattle.idx_outside.specs.Objects.{SameContents}
use Rattle.idx_outside.specs.declared.bay_call.BayCall.{BayCall}
use Rattle.idx_outside.specs.declared.bay_call.BayCall.TheVariants as calls
use Rattle.idx_outside.specs.declared.mem_file.MemFile.{MemFile}
use Rattle.idx_outside.specs.Counts.{EachMeetsOnce}
use Rattle.idx_seal.specs.Rows.{MeetsOnceOrRow}
use Rattle.idx_header.specs.declared.header_kind.HeaderKind.{HeaderKind}
use Rattle.idx_header.specs.Header.{HeaderValue, Agree, volume_bytes}
use Rattle.idx_header.specs.HeaderOf.{header_of}
use Rattle.idx_header.specs.OfBay.{IsFaultOfSome}
use Rattle.idx_header.specs.Revisions.{header_to_write}
use Rattle.idx_gather.specs.Gather.{HasFolder, LacksVolume, NoneFalls, too_large}
use Rattle.idx_rowmajor.specs.declared.layout.Layout.{Layout}
use Rattle.idx_convert.specs.declared.convert_fault.ConvertFault.{ConvertFault}
use Rattle.idx_convert.specs.declared.convert_fault.ConvertFault.TheVariants as faults
use Rattle.idx_convert.specs.Convert.{Asks, AsksFor, Begins, Converted, Differs, Ends, IsCause, IsEarly, IsFailedCall, IsRight, LeavesFailed, Suits, Takes, put_where_none}
use Rattle.idx_convert.specs.Counts.{SomeHigher, SomeRose}
use Rattle.idx_convert.specs.Known.{KeepsBay, Known}
use Rattle.idx_words.specs.ConvertValue.{ConvertValue}
use Rattle.idx_words.specs.Built.{IsBuilt}
use Rattle.idx_words.proofs.BuiltLemmas.{IsBuilt-once}
use Rattle.idx_commands.specs.declared.causes.Cause.{Cause}
use Rattle.idx_commands.specs.declared.causes.Cause.TheVariants as causes
use Rattle.idx_commands.specs.Cause.{status_of}
use Rattle.idx_commands.specs.Known.{known}
use Rattle.idx_commands.specs.Seen.{BaySeen, RawsSeen, bay_after, bay_before, raws_after, raws_before}
use Rattle.idx_commands.specs.ConvertRun.{AsksForText, cause_of_fault, ConvertEnds, ConvertMeans, Fails, FailsAtHeader, FailsFirst, IsEarlyCause}
use Rattle.idx_commands.proofs.KnownLemmas.{both_hold, not_refused, one_header}
use Rattle.idx_commands.specs.Due.{HasOtherLength, HasRightLength, IsBadText, IsFree, IsTooLarge, LacksStep, MeetsBadHeader, MeetsOtherHeader, MeetsStep}

not_err : (text : List ℕ) (h : HeaderValue) → header_of text ≡ Ok h → IsErr (header_of text) → ⊥
not_err text h reads refused = false≢true (subst IsErr reads refused)

-- a header that stands
suits_not_bad : (h : HeaderValue) (known : List ℕ) → Suits h known → (known ≢ []) × IsErr (header_of known) → ⊥
suits_not_bad h known (inl none) (stands, refused) = stands none
suits_not_bad h known (inr (other, (reads, agree))) (stands, refused) = not_err known other reads refused

differs_not_bad : (h : HeaderValue) (known : List ℕ) → Differs h known → (known ≢ []) × IsErr (header_of known) → ⊥
differs_not_bad h known (stands, (other, (reads, differ))) (some, refused) = not_err known other reads refused

differs_not_refused : (h : HeaderValue) (line : ℕ) (kind : HeaderKind) (known : List ℕ) → IsFaultOfSome known line kind → Differs h known → ⊥
differs_not_refused h line kind known (some, refused) (stands, (other, (reads, differ))) = not_refused known other _ reads refused

suits_not_refused : (h : HeaderValue) (line : ℕ) (kind : HeaderKind) (known : List ℕ) → IsFaultOfSome known line kind → Suits h known → ⊥
suits_not_refused h line kind known (some, refused) (inl none) = some none
suits_not_refused h line kind known (some, refused) (inr (other, (reads, agree))) = not_refused known other _ reads refused

suits_not_differs : (h : HeaderValue) (known : List ℕ) → Suits h known → Differs h known → ⊥
suits_not_differs h known (inl none) (some, differs) = some none
suits_not_differs h known (inr (one, (reads, agree))) (some, (other, (too, differ))) =
    differ (subst (λ g. Agree g h) (one_header known one other reads too) agree)

-- a revision of the step is left to write, or none is
abbrev HasNext : HeaderValue → ℕ → List MemFile → Type 0
HasNext h step files = IsSome (header_to_write h step files)

abbrev IsFull : HeaderValue → ℕ → List MemFile → Type 0
IsFull h step files = header_to_write h step files ≡ None

next_not_full : (h : HeaderValue) (step : ℕ) (files : List MemFile) → HasNext h step files → IsFull h step files → ⊥
next_not_full h step files some none = false≢true (subst IsSome none some)

module _ (layout : Layout) (text : List ℕ) (step : ℕ) (k : Known) where
  abbrev C : ConvertFault → Type 0
  C fault = IsCause text step k fault

  -- which call of the bay failed
  abbrev F : ConvertFault → Type 0
  F fault = LeavesFailed {T = Unit {0}} layout text step k (Err fault)

  abbrev st : ConvertFault → ℕ
  st fault = status_of (cause_of_fault step fault)

  -- the header that is asked for is one
  moved : (P : HeaderValue → Type 0) (g h : HeaderValue) → header_of text ≡ Ok g → header_of text ≡ Ok h → P g → P h
  moved P g h first second = subst P (one_header text g h first second)

  -- what a header that is asked for excludes
  not_lacking : (h : HeaderValue) → AsksFor text step h → LacksStep text step → ⊥
  not_lacking h asked (g, (reads, lacks)) = lacks (moved (λ x. HasFolder x step) h g asked.reads reads asked.folder)

  not_large : (h : HeaderValue) → AsksFor text step h → IsTooLarge text step → ⊥
  not_large h asked (g, (reads, (folder, large))) =
      let small = moved (λ x. too_large x ≡ None) h g asked.reads reads asked.small in false≢true (subst IsSome small large)

  -- a text that is refused
  bad_text : (fault : ConvertFault) → C fault → IsBadText text step → (st fault ≡ 2) ⊎ (st fault ≡ 11)
  bad_text (faults.Header line kind) c h = inl refl
  bad_text faults.NoStep (g, (reads, c)) h = absurd (not_err text g reads h)
  bad_text (faults.TooLarge bytes) (g, (reads, c)) h = absurd (not_err text g reads h)
  bad_text faults.OtherHeader (g, (asked, c)) h = absurd (not_err text g asked.reads h)
  bad_text faults.AlreadyPublished (g, (asked, c)) h = absurd (not_err text g asked.reads h)
  bad_text (faults.RawWrongSize want found) (g, (asked, c)) h = absurd (not_err text g asked.reads h)
  bad_text faults.RawFault (g, (asked, c)) h = absurd (not_err text g asked.reads h)
  bad_text faults.StoreFault (g, (asked, c)) h = absurd (not_err text g asked.reads h)
  bad_text faults.NoMemory c h = inr refl

  -- a header without the step
  no_step : (fault : ConvertFault) → C fault → LacksStep text step → (st fault ≡ 8) ⊎ (st fault ≡ 11)
  no_step (faults.Header line kind) (real, inl refused) (h, (reads, lacks)) = absurd (not_refused text h _ reads refused)
  no_step (faults.Header line kind) (real, inr (g, (asked, c))) h = absurd (not_lacking g asked h)
  no_step faults.NoStep c h = inl refl
  no_step (faults.TooLarge bytes) c h = inl refl
  no_step faults.OtherHeader (g, (asked, c)) h = absurd (not_lacking g asked h)
  no_step faults.AlreadyPublished (g, (asked, c)) h = absurd (not_lacking g asked h)
  no_step (faults.RawWrongSize want found) (g, (asked, c)) h = absurd (not_lacking g asked h)
  no_step faults.RawFault (g, (asked, c)) h = absurd (not_lacking g asked h)
  no_step faults.StoreFault (g, (asked, c)) h = absurd (not_lacking g asked h)
  no_step faults.NoMemory c h = inr refl

  -- too many bytes
  too_many : (fault : ConvertFault) → C fault → IsTooLarge text step → (st fault ≡ 8) ⊎ (st fault ≡ 11)
  too_many (faults.Header line kind) (real, inl refused) (h, (reads, large)) = absurd (not_refused text h _ reads refused)
  too_many (faults.Header line kind) (real, inr (g, (asked, c))) h = absurd (not_large g asked h)
  too_many faults.NoStep c h = inl refl
  too_many (faults.TooLarge bytes) c h = inl refl
  too_many faults.OtherHeader (g, (asked, c)) h = absurd (not_large g asked h)
  too_many faults.AlreadyPublished (g, (asked, c)) h = absurd (not_large g asked h)
  too_many (faults.RawWrongSize want found) (g, (asked, c)) h = absurd (not_large g asked h)
  too_many faults.RawFault (g, (asked, c)) h = absurd (not_large g asked h)
  too_many faults.StoreFault (g, (asked, c)) h = absurd (not_large g asked h)
  too_many faults.NoMemory c h = inr refl

  -- what is asked for is right: what each fault then says of its header
  module _ (h : HeaderValue) (asked : AsksFor text step h) where
    abbrev Late : ConvertFault → Type 0
    Late (faults.Header line kind) = IfSome k.header (λ known. IsFaultOfSome known line kind)
    Late faults.NoStep = ⊥
    Late (faults.TooLarge bytes) = ⊥
    Late faults.OtherHeader = IfSome k.header (Differs h)
    Late faults.AlreadyPublished = IfSome k.header (Suits h) × IfSome k.files (IsFull h step)
    Late (faults.RawWrongSize want found) =
        Takes h step k.header k.files × (want ≡ volume_bytes h) × (found ≢ want) × IfSome k.raw (λ bytes. found ≡ length bytes)
    Late faults.RawFault = Takes h step k.header k.files × SomeRose k.raw_before k.raw_after
    Late faults.StoreFault = Rose k.bay_before k.bay_after
    Late faults.NoMemory = Unit {0}

    of_header : (P : HeaderValue → Type 0) → Asks text step P → P h
    of_header P (g, (other, c)) = moved P g h other.reads asked.reads c

    late : (fault : ConvertFault) → C fault → Late fault
    late (faults.Header line kind) (real, inl refused) = absurd (not_refused text h _ asked.reads refused)
    late (faults.Header line kind) (real, inr c) = of_header (λ g. IfSome k.header (λ known. IsFaultOfSome known line kind)) c
    late faults.NoStep c = absurd (not_lacking h asked c)
    late (faults.TooLarge bytes) (g, (reads, (folder, large))) =
        absurd (not_large h asked (g, (reads, (folder, subst IsSome (sym large) refl))))
    late faults.OtherHeader c = of_header (λ g. IfSome k.header (Differs g)) c
    late faults.AlreadyPublished c = of_header (λ g. IfSome k.header (Suits g) × IfSome k.files (IsFull g step)) c
    late (faults.RawWrongSize want found) c =
        of_header (λ g. Takes g step k.header k.files × (want ≡ volume_bytes g) × (found ≢ want)
        × IfSome k.raw (λ bytes. found ≡ length bytes)) c
    late faults.RawFault c = of_header (λ g. Takes g step k.header k.files × SomeRose k.raw_before k.raw_after) c
    late faults.StoreFault c = of_header (λ g. Rose k.bay_before k.bay_after) c
    late faults.NoMemory c = tt

    -- the call that failed: where what stands does not suit, the first one, and where something is wrong, one of the first two
    header_call : (IfSome k.header (Suits h) → ⊥) → (call : Option BayCall) → IsFailedCall layout text step k call → call ≡ Some calls.Header
    header_call wrong (Some calls.Header) f = refl
    header_call wrong (Some calls.HasStep) f = absurd (wrong (of_header (λ g. IfSome k.header (Suits g)) f.1))
    header_call wrong (Some calls.SetHeader) f = absurd (wrong (of_header (λ g. IsRight g step k) f.2).0.suits)
    header_call wrong (Some calls.BeginStep) f = absurd (wrong (of_header (λ g. IsRight g step k) f.3).0.suits)
    header_call wrong (Some calls.Create) f = absurd (wrong (of_header (λ g. IsRight g step k × Begins g step k) f.2).0.0.suits)
    header_call wrong (Some calls.Retire) f = absurd (wrong (of_header (λ g. IsRight g step k × Begins g step k) f.2).0.0.suits)
    header_call wrong (Some calls.Commit) f = absurd (wrong (of_header (λ g. IsRight g step k × Begins g step k) f.2).0.0.suits)
    header_call wrong (Some calls.Leaf) f = absurd f
    header_call wrong None f = absurd f

    first_call : (IsRight h step k → ⊥) → (call : Option BayCall) → IsFailedCall layout text step k call → (call ≡ Some calls.Header) ⊎ (call ≡ Some calls.HasStep)
    first_call wrong (Some calls.Header) f = inl refl
    first_call wrong (Some calls.HasStep) f = inr refl
    first_call wrong (Some calls.SetHeader) f = absurd (wrong (of_header (λ g. IsRight g step k) f.2))
    first_call wrong (Some calls.BeginStep) f = absurd (wrong (of_header (λ g. IsRight g step k) f.3))
    first_call wrong (Some calls.Create) f = absurd (wrong (of_header (λ g. IsRight g step k × Begins g step k) f.2).0)
    first_call wrong (Some calls.Retire) f = absurd (wrong (of_header (λ g. IsRight g step k × Begins g step k) f.2).0)
    first_call wrong (Some calls.Commit) f = absurd (wrong (of_header (λ g. IsRight g step k × Begins g step k) f.2).0)
    first_call wrong (Some calls.Leaf) f = absurd f
    first_call wrong None f = absurd f

    -- a header stands that is refused
    bad_standing : IsSomeAnd k.header (λ known. (known ≢ []) × IsErr (header_of known)) → (fault : ConvertFault) → F fault → Late fault →
        (st fault ≡ 2) ⊎ (FailsAtHeader (st fault) k.failed_after ⊎ (st fault ≡ 11))
    bad_standing bad (faults.Header line kind) f c = inl refl
    bad_standing bad faults.OtherHeader f c = absurd (both_hold k.header (Differs h) _ (differs_not_bad h) c bad)
    bad_standing bad faults.AlreadyPublished f c = absurd (both_hold k.header (Suits h) _ (suits_not_bad h) c.0 bad)
    bad_standing bad (faults.RawWrongSize want found) f c = absurd (both_hold k.header (Suits h) _ (suits_not_bad h) c.0.suits bad)
    bad_standing bad faults.RawFault f c = absurd (both_hold k.header (Suits h) _ (suits_not_bad h) c.0.suits bad)
    bad_standing bad faults.StoreFault f c = inr (inl (refl, header_call (λ suits. both_hold k.header (Suits h) _ (suits_not_bad h) suits bad) k.failed_after f))
    bad_standing bad faults.NoMemory f c = inr (inr refl)
    bad_standing bad faults.NoStep f c = absurd c
    bad_standing bad (faults.TooLarge bytes) f c = absurd c

    -- a header stands that does not agree
    other_header : IsSomeAnd k.header (Differs h) → (fault : ConvertFault) → F fault → Late fault →
        (st fault ≡ 6) ⊎ (FailsAtHeader (st fault) k.failed_after ⊎ (st fault ≡ 11))
    other_header other (faults.Header line kind) f c = absurd (both_hold k.header (λ known. IsFaultOfSome known line kind) _ (differs_not_refused h line kind) c other)
    other_header other faults.OtherHeader f c = inl refl
    other_header other faults.AlreadyPublished f c = inl refl
    other_header other (faults.RawWrongSize want found) f c = absurd (both_hold k.header (Suits h) _ (suits_not_differs h) c.0.suits other)
    other_header other faults.RawFault f c = absurd (both_hold k.header (Suits h) _ (suits_not_differs h) c.0.suits other)
    other_header other faults.StoreFault f c = inr (inl (refl, header_call (λ suits. both_hold k.header (Suits h) _ (suits_not_differs h) suits other) k.failed_after f))
    other_header other faults.NoMemory f c = inr (inr refl)
    other_header other faults.NoStep f c = absurd c
    other_header other (faults.TooLarge bytes) f c = absurd c

    -- no revision of the step is left
    published : IsSomeAnd k.header (Suits h) → IsSomeAnd k.files (IsFull h step) → (fault : ConvertFault) → F fault → Late fault →
        (st fault ≡ 6) ⊎ (FailsFirst (st fault) k.failed_after ⊎ (st fault ≡ 11))
    published suits stands (faults.Header line kind) f c = absurd (both_hold k.header (λ known. IsFaultOfSome known line kind) _ (suits_not_refused h line kind) c suits)
    published suits stands faults.OtherHeader f c = inl refl
    published suits stands faults.AlreadyPublished f c = inl refl
    published suits stands (faults.RawWrongSize want found) f c = absurd (both_hold k.files (HasNext h step) _ (next_not_full h step) c.0.next stands)
    published suits stands faults.RawFault f c = absurd (both_hold k.files (HasNext h step) _ (next_not_full h step) c.0.next stands)
    published suits stands faults.StoreFault f c = inr (inl (refl, first_call (λ right. both_hold k.files (HasNext h step) _ (next_not_full h step) right.0.next stands) k.failed_after f))
    published suits stands faults.NoMemory f c = inr (inr refl)
    published suits stands faults.NoStep f c = absurd c
    published suits stands (faults.TooLarge bytes) f c = absurd c

    -- all is right but the length
    module _ (suits : IsSomeAnd k.header (Suits h)) (new : IsSomeAnd k.files (HasNext h step)) where
      differs_too : (known : List ℕ) → Differs h known → Suits h known → ⊥
      differs_too known differs same = suits_not_differs h known same differs

      full_too : (files : List MemFile) → IsFull h step files → HasNext h step files → ⊥
      full_too files full next = next_not_full h step files next full

      other_length : IsSomeAnd k.raw (HasOtherLength h) → (fault : ConvertFault) → F fault → Late fault →
          (st fault ≡ 3) ⊎ ((st fault ≡ 4) ⊎ (FailsFirst (st fault) k.failed_after ⊎ (st fault ≡ 11)))
      other_length other (faults.Header line kind) f c = absurd (both_hold k.header (λ known. IsFaultOfSome known line kind) _ (suits_not_refused h line kind) c suits)
      other_length other faults.OtherHeader f c = absurd (both_hold k.header (Differs h) _ differs_too c suits)
      other_length other faults.AlreadyPublished f c = absurd (both_hold k.files (IsFull h step) _ full_too c.1 new)
      other_length other (faults.RawWrongSize want found) f c = inl refl
      other_length other faults.RawFault f c = inr (inl refl)
      other_length other faults.StoreFault f c = inr (inr (inl (refl, first_call (λ right. both_hold k.raw (HasRightLength h) (HasOtherLength h) (λ bytes fits wrong. wrong fits) right.1 other) k.failed_after f)))
      other_length other faults.NoMemory f c = inr (inr (inr refl))
      other_length other faults.NoStep f c = absurd c
      other_length other (faults.TooLarge bytes) f c = absurd c

      -- so is the length, and no fault was counted
      complete : IsSomeAnd k.raw (HasRightLength h) → ¬ SomeRose k.raw_before k.raw_after → ¬ Rose k.bay_before k.bay_after → (fault : ConvertFault) → Late fault →
          (st fault ≡ 0) ⊎ (st fault ≡ 11)
      complete right raw_quiet bay_quiet (faults.Header line kind) c = absurd (both_hold k.header (λ known. IsFaultOfSome known line kind) _ (suits_not_refused h line kind) c suits)
      complete right raw_quiet bay_quiet faults.OtherHeader c = absurd (both_hold k.header (Differs h) _ differs_too c suits)
      complete right raw_quiet bay_quiet faults.AlreadyPublished c = absurd (both_hold k.files (IsFull h step) _ full_too c.1 new)
      complete right raw_quiet bay_quiet (faults.RawWrongSize want found) (takes, asks, other, found_is) =
          absurd (both_hold k.raw (λ bytes. found ≡ length bytes) (HasRightLength h) (λ bytes is fits. other (is ∙ fits ∙ sym asks)) found_is right)
      complete right raw_quiet bay_quiet faults.RawFault c = absurd (raw_quiet c.1)
      complete right raw_quiet bay_quiet faults.StoreFault c = absurd (bay_quiet c)
      complete right raw_quiet bay_quiet faults.NoMemory c = inr refl
      complete right raw_quiet bay_quiet faults.NoStep c = absurd c
      complete right raw_quiet bay_quiet (faults.TooLarge bytes) c = absurd c

-- The end of a run of `convert` under the one header text that its words ask for: this is so of its status where it is so of
-- status 0 if the step was written, of want of memory, and of each fault.
judged : (P : ℕ → Type 0) (c : ConvertValue) (k : Known) (text : List ℕ) → IsBuilt c text → (Converted c.layout text c.step k → P 0) → P 11 →
    ((fault : ConvertFault) → C c.layout text c.step k fault → F c.layout text c.step k fault → P (status_of (cause_of_fault c.step fault))) →
    (cause : Cause) → ConvertMeans c k cause → P (status_of cause)
judged P c k text built done starved failed = end
  where
    same : (other : List ℕ) → IsBuilt c other → other ≡ text
    same other is = IsBuilt-once c other text is built

    fails : (cause : Cause) → Fails c.layout text c.step k cause → P (status_of cause)
    fails cause f = subst (λ x. P (status_of x)) (sym f.is) (failed f.fault f.caused f.failed)

    at : (cause : Cause) (other : List ℕ) → IsBuilt c other → Fails c.layout other c.step k cause → P (status_of cause)
    at cause other is f = fails cause (subst (λ x. Fails c.layout x c.step k cause) (same other is) f)

    end : (cause : Cause) → ConvertMeans c k cause → P (status_of cause)
    end causes.Done (other, (is, wrote)) = done (subst (λ x. Converted c.layout x c.step k) (same other is) wrote)
    end (causes.Usage place) ends = absurd ends
    end causes.SinkFault ends = absurd ends
    end causes.DoorFault ends = absurd ends
    end causes.NoMemory ends = starved
    end cause (other, (is, f)) = at cause other is f

module _ (c : ConvertValue) (k : Known) (cause : Cause) (ends : ConvertMeans c k cause) where
  -- what was converted has the header that was asked for
  wrote_for : (text : List ℕ) (step : ℕ) (h : HeaderValue) → AsksFor text step h → (wrote : Converted c.layout text step k) → (P : HeaderValue → Type 0) → P wrote.header → P h
  wrote_for text step h asked wrote P = subst P (one_header text wrote.header h wrote.asked.reads asked.reads)

  pub bad_text_ends : (text : List ℕ) → IsBuilt c text → IsBadText text c.step → (status_of cause ≡ 2) ⊎ (status_of cause ≡ 11)
  bad_text_ends text built bad =
      judged (λ s. (s ≡ 2) ⊎ (s ≡ 11)) c k text built
      (λ wrote. absurd (not_err text wrote.header wrote.asked.reads bad)) (inr refl)
      (λ fault caused call. bad_text c.layout text c.step k fault caused bad) cause ends

  pub no_step_ends : (text : List ℕ) → IsBuilt c text → LacksStep text c.step → (status_of cause ≡ 8) ⊎ (status_of cause ≡ 11)
  no_step_ends text built lacks =
      judged (λ s. (s ≡ 8) ⊎ (s ≡ 11)) c k text built
      (λ wrote. absurd (not_lacking c.layout text c.step k wrote.header wrote.asked lacks)) (inr refl)
      (λ fault caused call. no_step c.layout text c.step k fault caused lacks) cause ends

  pub too_large_ends : (text : List ℕ) → IsBuilt c text → IsTooLarge text c.step → (status_of cause ≡ 8) ⊎ (status_of cause ≡ 11)
  too_large_ends text built large =
      judged (λ s. (s ≡ 8) ⊎ (s ≡ 11)) c k text built
      (λ wrote. absurd (not_large c.layout text c.step k wrote.header wrote.asked large)) (inr refl)
      (λ fault caused call. too_many c.layout text c.step k fault caused large) cause ends

  pub bad_standing_ends : (text : List ℕ) → IsBuilt c text → MeetsBadHeader k.header text c.step →
      (status_of cause ≡ 2) ⊎ (FailsAtHeader (status_of cause) k.failed_after ⊎ (status_of cause ≡ 11))
  bad_standing_ends text built (h, (asked, bad)) =
      judged (λ s. (s ≡ 2) ⊎ (FailsAtHeader s k.failed_after ⊎ (s ≡ 11))) c k text built
      (λ wrote. absurd (both_hold k.header (Suits wrote.header) _ (suits_not_bad wrote.header) wrote.taken.suits bad)) (inr (inr refl))
      (λ fault caused call. bad_standing c.layout text c.step k h asked bad fault call (late c.layout text c.step k h asked fault caused)) cause ends

  pub other_header_ends : (text : List ℕ) → IsBuilt c text → MeetsOtherHeader k.header text c.step →
      (status_of cause ≡ 6) ⊎ (FailsAtHeader (status_of cause) k.failed_after ⊎ (status_of cause ≡ 11))
  other_header_ends text built (h, (asked, other)) =
      judged (λ s. (s ≡ 6) ⊎ (FailsAtHeader s k.failed_after ⊎ (s ≡ 11))) c k text built
      (λ wrote. let taken = wrote_for text c.step h asked wrote (λ g. Takes g c.step k.header k.files) wrote.taken in
      absurd (both_hold k.header (Suits h) (Differs h) (suits_not_differs h) taken.suits other)) (inr (inr refl))
      (λ fault caused call. other_header c.layout text c.step k h asked other fault call (late c.layout text c.step k h asked fault caused)) cause ends

  pub published_ends : (text : List ℕ) → IsBuilt c text → MeetsStep k.header k.files text c.step →
      (status_of cause ≡ 6) ⊎ (FailsFirst (status_of cause) k.failed_after ⊎ (status_of cause ≡ 11))
  published_ends text built (h, (asked, (suits, stands))) =
      judged (λ s. (s ≡ 6) ⊎ (FailsFirst s k.failed_after ⊎ (s ≡ 11))) c k text built
      (λ wrote. let taken = wrote_for text c.step h asked wrote (λ g. Takes g c.step k.header k.files) wrote.taken in
      absurd (both_hold k.files (HasNext h c.step) (IsFull h c.step) (next_not_full h c.step) taken.next stands)) (inr (inr refl))
      (λ fault caused call. published c.layout text c.step k h asked suits stands fault call (late c.layout text c.step k h asked fault caused)) cause ends

  pub other_length_ends : (text : List ℕ) → IsBuilt c text → IsFree k.header k.files k.raw HasOtherLength text c.step →
      (status_of cause ≡ 3) ⊎ ((status_of cause ≡ 4) ⊎ (FailsFirst (status_of cause) k.failed_after ⊎ (status_of cause ≡ 11)))
  other_length_ends text built (h, (asked, (suits, new, other))) =
      judged (λ s. (s ≡ 3) ⊎ ((s ≡ 4) ⊎ (FailsFirst s k.failed_after ⊎ (s ≡ 11)))) c k text built
      (λ wrote. let size = wrote_for text c.step h asked wrote (λ g. IfSome k.raw (HasRightLength g)) wrote.size in
      absurd (both_hold k.raw (HasRightLength h) (HasOtherLength h) (λ bytes right wrong. wrong right) size other)) (inr (inr (inr refl)))
      (λ fault caused call. other_length c.layout text c.step k h asked suits new other fault call (late c.layout text c.step k h asked fault caused)) cause ends

  pub complete_ends : (text : List ℕ) → IsBuilt c text → IsFree k.header k.files k.raw HasRightLength text c.step →
      ¬ SomeRose k.raw_before k.raw_after → ¬ Rose k.bay_before k.bay_after → (status_of cause ≡ 0) ⊎ (status_of cause ≡ 11)
  complete_ends text built (h, (asked, (suits, new, right))) raw_quiet bay_quiet =
      judged (λ s. (s ≡ 0) ⊎ (s ≡ 11)) c k text built
      (λ wrote. inl refl) (inr refl)
      (λ fault caused call. complete c.layout text c.step k h asked suits new right raw_quiet bay_quiet fault (late c.layout text c.step k h asked fault caused)) cause ends

-- a fault of the raw volume or of the store has its cause
only_raw : (text : List ℕ) (step : ℕ) (k : Known) (fault : ConvertFault) → cause_of_fault step fault ≡ causes.RawFault → IsCause text step k fault →
    SomeRose k.raw_before k.raw_after
only_raw text step k faults.RawFault is c = c.1.1.1
only_raw text step k _ is c = absurd cc

only_store : (text : List ℕ) (step : ℕ) (k : Known) (fault : ConvertFault) → cause_of_fault step fault ≡ causes.StoreFault → IsCause text step k fault →
    Rose k.bay_before k.bay_after
only_store text step k faults.StoreFault is c = c.1.1
only_store text step k _ is c = absurd cc

pub raw_cause : (c : ConvertValue) (k : Known) → ConvertMeans c k causes.RawFault → SomeRose k.raw_before k.raw_after
raw_cause c k (text, (built, f)) = only_raw text c.step k f.fault (sym f.is) f.caused

pub store_cause : (c : ConvertValue) (k : Known) → ConvertMeans c k causes.StoreFault → Rose k.bay_before k.bay_after
store_cause c k (text, (built, f)) = only_store text c.step k f.fault (sym f.is) f.caused

-- a run of `convert` does not end for its words
pub never_usage : (c : ConvertValue) (k : Known) (cause : Cause) → ConvertMeans c k cause → status_of cause ≡ 1 → ⊥
never_usage c k (causes.Usage at) m one = m
never_usage c k cause m one = omega (arith, one)

-- the early causes are those of the early faults
early_fault : (raw : Option (List ℕ)) (step : ℕ) (fault : ConvertFault) → IsEarlyCause raw (cause_of_fault step fault) → IsEarly raw fault
early_fault raw step (faults.Header line kind) early = early
early_fault raw step faults.NoStep early = early
early_fault raw step (faults.TooLarge bytes) early = early
early_fault raw step faults.OtherHeader early = early
early_fault raw step faults.AlreadyPublished early = early
early_fault raw step (faults.RawWrongSize want found) early = early
early_fault raw step faults.RawFault early = early
early_fault raw step faults.StoreFault early = early
early_fault raw step faults.NoMemory early = early

-- the cause of a conversion that ends with this answer
abbrev pub cause_of_end : ℕ → Result (Unit {0}) ConvertFault → Cause
cause_of_end step (Ok done) = causes.Done
cause_of_end step (Err fault) = cause_of_fault step fault

-- what a cause says, by the answer of the conversion
module _ (c : ConvertValue) (text : List ℕ) (built : IsBuilt c text) (k : Known) where
  fails : (fault : ConvertFault) → Ends {T = Unit {0}} c.layout text c.step k (Err fault) → Fails c.layout text c.step k (cause_of_fault c.step fault)
  fails fault e =
      record {
        fault = fault;
        is = refl;
        caused = e.cause;
        header = e.header;
        files = e.files;
        asked = e.asked;
        failed = e.failed;
      }

  starves : Ends {T = Unit {0}} c.layout text c.step k (Err faults.NoMemory) → ConvertMeans c k causes.NoMemory
  starves e = record { files = e.files; header = put e.header; failed = e.failed }
    where
      put : (k.header_after ≡ k.header) ⊎ (k.header_after ≡ put_where_none text k.header) →
          (k.header_after ≡ k.header) ⊎ AsksForText c (λ text. k.header_after ≡ put_where_none text k.header)
      put (inl same) = inl same
      put (inr there) = inr (text, (built, there))

  means : (result : Result (Unit {0}) ConvertFault) → Ends {T = Unit {0}} c.layout text c.step k result → ConvertMeans c k (cause_of_end c.step result)
  means (Ok done) e = (text, (built, e.converted))
  means (Err (faults.Header line kind)) e = (text, (built, fails (faults.Header line kind) e))
  means (Err faults.NoStep) e = (text, (built, fails faults.NoStep e))
  means (Err (faults.TooLarge bytes)) e = (text, (built, fails (faults.TooLarge bytes) e))
  means (Err faults.OtherHeader) e = (text, (built, fails faults.OtherHeader e))
  means (Err faults.AlreadyPublished) e = (text, (built, fails faults.AlreadyPublished e))
  means (Err (faults.RawWrongSize want found)) e = (text, (built, fails (faults.RawWrongSize want found) e))
  means (Err faults.RawFault) e = (text, (built, fails faults.RawFault e))
  means (Err faults.StoreFault) e = (text, (built, fails faults.StoreFault e))
  means (Err faults.NoMemory) e = starves e

  -- the call that failed, by the status
  failed_five : (result : Result (Unit {0}) ConvertFault) → Ends {T = Unit {0}} c.layout text c.step k result → status_of (cause_of_end c.step result) ≡ 5 →
      AsksForText c (λ text. IsFailedCall c.layout text c.step k k.failed_after)
  failed_five (Ok done) e five = absurd (omega (arith, five))
  failed_five (Err (faults.Header line kind)) e five = absurd (omega (arith, five))
  failed_five (Err faults.NoStep) e five = absurd (omega (arith, five))
  failed_five (Err (faults.TooLarge bytes)) e five = absurd (omega (arith, five))
  failed_five (Err faults.OtherHeader) e five = absurd (omega (arith, five))
  failed_five (Err faults.AlreadyPublished) e five = absurd (omega (arith, five))
  failed_five (Err (faults.RawWrongSize want found)) e five = absurd (omega (arith, five))
  failed_five (Err faults.RawFault) e five = absurd (omega (arith, five))
  failed_five (Err faults.StoreFault) e five = (text, (built, e.failed))
  failed_five (Err faults.NoMemory) e five = absurd (omega (arith, five))

  unfailed : (result : Result (Unit {0}) ConvertFault) → Ends {T = Unit {0}} c.layout text c.step k result → ¬ (status_of (cause_of_end c.step result) ≡ 5) →
      k.failed_after ≡ k.failed
  unfailed (Ok done) e other = e.failed
  unfailed (Err (faults.Header line kind)) e other = e.failed
  unfailed (Err faults.NoStep) e other = e.failed
  unfailed (Err (faults.TooLarge bytes)) e other = e.failed
  unfailed (Err faults.OtherHeader) e other = e.failed
  unfailed (Err faults.AlreadyPublished) e other = e.failed
  unfailed (Err (faults.RawWrongSize want found)) e other = e.failed
  unfailed (Err faults.RawFault) e other = e.failed
  unfailed (Err faults.StoreFault) e other = absurd (other refl)
  unfailed (Err faults.NoMemory) e other = e.failed

  -- what is found before the bay is changed
  keeps : (result : Result (Unit {0}) ConvertFault) → Ends {T = Unit {0}} c.layout text c.step k result → IsEarlyCause k.raw (cause_of_end c.step result) → KeepsBay k
  keeps (Ok done) e early = absurd early
  keeps (Err fault) e early = e.early (early_fault k.raw c.step fault early)

  -- a header text is asked for, and no other
  unread : (result : Result (Unit {0}) ConvertFault) → Ends {T = Unit {0}} c.layout text c.step k result →
      AsksForText c (λ text. Asks text c.step (λ h. LacksVolume h k.raw)) → k.asked_after ≡ k.asked_before
  unread result e (other, (is, lacks)) =
      e.unasked (subst (λ x. Asks x c.step (λ h. LacksVolume h k.raw)) (IsBuilt-once c other text is built) lacks)

  begins : (k.begun_after ≡ k.begun) ⊎ Asks text c.step (λ h. Begins h c.step k) →
      (k.begun_after ≡ k.begun) ⊎ AsksForText c (λ text. Asks text c.step (λ h. Begins h c.step k))
  begins (inl same) = inl same
  begins (inr there) = inr (text, (built, there))

  raw_answered : (result : Result (Unit {0}) ConvertFault) → Ends {T = Unit {0}} c.layout text c.step k result → SomeHigher k.raw_before k.raw_after →
      cause_of_end c.step result ≡ causes.RawFault
  raw_answered result e more = ap (cause_of_end c.step) (e.raw_answered more)

  store_answered : (result : Result (Unit {0}) ConvertFault) → Ends {T = Unit {0}} c.layout text c.step k result → k.bay_before < k.bay_after →
      cause_of_end c.step result ≡ causes.StoreFault
  store_answered result e more = ap (cause_of_end c.step) (e.store_answered more)

-- how a run ends, by what its cause says
module _ {V B : Type 0} (c : ConvertValue) (raws : RawsSeen V) (bay : BaySeen B) where
  abbrev k : Known
  k = known raws bay

  -- what stays of the raw volumes, and how often they and the bay met a fault
  pub record RawsKept : Type 0 where
    pub same : SameContents raws.contents raws.old raws.new
    pub idle : drop (min c.ranks (length raws.old)) raws.new ≡ drop (min c.ranks (length raws.old)) raws.old
    pub counts : NoneFalls (raws_before raws) (raws_after raws)
    pub once : EachMeetsOnce (raws_before raws) (raws_after raws)
    pub bay_once : MeetsOnceOrRow (bay.failed bay.new) c.ranks (bay_before bay) (bay_after bay)

  ends_by : (cause : Cause) → ConvertMeans c k cause →
      (SomeHigher (raws_before raws) (raws_after raws) → cause ≡ causes.RawFault) → (bay_before bay < bay_after bay → cause ≡ causes.StoreFault) →
      (IsEarlyCause k.raw cause → KeepsBay k) →
      (AsksForText c (λ text. Asks text c.step (λ h. LacksVolume h k.raw)) → k.asked_after ≡ k.asked_before) →
      (status_of cause ≡ 5 → AsksForText c (λ text. IsFailedCall c.layout text c.step k k.failed_after)) →
      (¬ (status_of cause ≡ 5) → k.failed_after ≡ k.failed) →
      (k.begun_after ≡ k.begun) ⊎ AsksForText c (λ text. Asks text c.step (λ h. Begins h c.step k)) →
      RawsKept → NeverFalls (bay_before bay) (bay_after bay) → ConvertEnds c raws bay cause
  ends_by cause m raw_more store_more early apart five other folder kept count =
      record {
        means = m;
        bad_text = λ (text, (built, due)). bad_text_ends c k cause m text built due;
        no_step = λ (text, (built, due)). no_step_ends c k cause m text built due;
        too_large = λ (text, (built, due)). too_large_ends c k cause m text built due;
        bad_standing = λ (text, (built, due)). bad_standing_ends c k cause m text built due;
        other_header = λ (text, (built, due)). other_header_ends c k cause m text built due;
        published = λ (text, (built, due)). published_ends c k cause m text built due;
        other_length = λ (text, (built, due)). other_length_ends c k cause m text built due;
        complete = λ (text, (built, due)). complete_ends c k cause m text built due;
        raw_answered = raw_more;
        store_answered = store_more;
        unbegun = λ is. let same = early is in record { header = same.header; files = same.files; begun = same.begun; changes = same.changes };
        unread = apart;
        failed = five;
        unfailed = other;
        begun = folder;
        raws_kept = kept.same;
        raws_idle = kept.idle;
        raw_counts = kept.counts;
        bay_count = count;
        raws_once = kept.once;
        bay_once = kept.bay_once;
      }

  ended : (text : List ℕ) (result : Result (Unit {0}) ConvertFault) → IsBuilt c text → Ends {T = Unit {0}} c.layout text c.step k result →
      RawsKept → ConvertEnds c raws bay (cause_of_end c.step result)
  ended text result built e kept =
      ends_by (cause_of_end c.step result) (means c text built k result e) (raw_answered c text built k result e) (store_answered c text built k result e)
      (keeps c text built k result e) (unread c text built k result e) (failed_five c text built k result e) (unfailed c text built k result e)
      (begins c text built k e.begun) kept e.count

  -- the header text was made, and the conversion of this step in this layout ended with this answer
  pub convert_ends : (text : List ℕ) (layout : Layout) (step : ℕ) (result : Result (Unit {0}) ConvertFault) (cause : Cause) → layout ≡ c.layout → step ≡ c.step → cause ≡ cause_of_end step result →
      IsBuilt c text → Ends {T = Unit {0}} layout text step k result → RawsKept → ConvertEnds c raws bay cause
  convert_ends text layout step result cause one same is built e kept =
      subst (ConvertEnds c raws bay) (sym is)
      (subst (λ s. ConvertEnds c raws bay (cause_of_end s result)) (sym same)
      (ended text result built (subst (λ s. Ends {T = Unit {0}} c.layout text s k result) same (subst (λ (l : Layout). Ends {T = Unit {0}} l text step k result) one e)) kept))
