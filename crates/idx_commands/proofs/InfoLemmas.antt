-- What a run of `info` comes to, by what its cause says.
use Rattle.std.proofs.Common.{◌≡◌, ◌≢◌, ◌⊎◌, ℕ, ◌<◌, List, Option, Some, None, Err, IsErr, IsOk, IfSome, inl, inr, refl, subst}
use Rattle.std.proofs.lemmas.Bool.{false≢true}
use Rattle.idx_outside.specs.Cause.{MeetsOnce, NeverFalls, Rose}
use Rattle.idx_outside.specs.declared.bay_call.BayCall.TheVariants as calls
use Rattle.idx_header.specs.declared.header_fault.HeaderFault.{HeaderFault}
use Rattle.idx_header.specs.Header.{HeaderValue}
use Rattle.idx_header.specs.HeaderOf.{header_of}
use Rattle.idx_commands.specs.declared.causes.Cause.{Cause}
use Rattle.idx_commands.specs.declared.causes.Cause.TheVariants as causes
use Rattle.idx_commands.specs.Cause.{status_of}
use Rattle.idx_commands.specs.InfoRun.{HasBadHeader, HasGoodHeader, InfoEnds, InfoMeans, KnownReads}
use Rattle.idx_commands.specs.Seen.{BaySeen, SinkSeen, bay_after, bay_before, sink_after, sink_before}

-- a header text that reads is not refused, and one that is refused does not read
not_refused : (header : Option (List ℕ)) (P : HeaderValue → Type 0) → KnownReads header P → HasBadHeader header → ⊥
not_refused None P reads refused = refused
not_refused (Some text) P reads refused = false≢true (subst IsErr reads.1.0 refused)

not_read : (header : Option (List ℕ)) (fault : HeaderFault) → IfSome header (λ text. header_of text ≡ Err fault) → HasGoodHeader header → ⊥
not_read None fault refused reads = reads
not_read (Some text) fault refused reads = false≢true (subst IsOk refused reads)

module _ {B K : Type 0} (bay : BaySeen B) (sink : SinkSeen K) where
  bad_header : (cause : Cause) → InfoMeans bay sink cause → HasBadHeader (bay.header bay.old) →
      (status_of cause ≡ 2) ⊎ ((status_of cause ≡ 5) ⊎ (status_of cause ≡ 11))
  bad_header causes.Done m bad = absurd (not_refused (bay.header bay.old) _ m bad)
  bad_header causes.SinkFault m bad = absurd (not_refused (bay.header bay.old) _ m.1 bad)
  bad_header (causes.Header line kind) m bad = inl refl
  bad_header causes.StoreFault m bad = inr (inl refl)
  bad_header causes.NoMemory m bad = inr (inr refl)
  bad_header _ m bad = absurd m.0

  complete : (cause : Cause) → InfoMeans bay sink cause → HasGoodHeader (bay.header bay.old) →
      ¬ Rose (bay_before bay) (bay_after bay) → ¬ Rose (sink_before sink) (sink_after sink) →
      (status_of cause ≡ 0) ⊎ (status_of cause ≡ 11)
  complete causes.Done m good quiet taken = inl refl
  complete causes.SinkFault m good quiet taken = absurd (taken m.0)
  complete (causes.Header line kind) m good quiet taken = absurd (not_read (bay.header bay.old) _ m.0.1 good)
  complete causes.StoreFault m good quiet taken = absurd (quiet m.0)
  complete causes.NoMemory m good quiet taken = inr refl
  complete _ m good quiet taken = absurd m.0

  pub info_silent : (cause : Cause) → InfoMeans bay sink cause → status_of cause ≢ 0 → status_of cause ≢ 9 → sink.new ≡ sink.old
  info_silent causes.Done m zero nine = absurd (zero refl)
  info_silent causes.SinkFault m zero nine = absurd (nine refl)
  info_silent (causes.Header line kind) m zero nine = m.1
  info_silent causes.StoreFault m zero nine = m.1
  info_silent causes.NoMemory m zero nine = m.1
  info_silent _ m zero nine = absurd m.0

  pub info_ends : (cause : Cause) → InfoMeans bay sink cause →
      (bay_before bay < bay_after bay → cause ≡ causes.StoreFault) → (sink_before sink < sink_after sink → cause ≡ causes.SinkFault) →
      (status_of cause ≡ 5 → bay.failed bay.new ≡ Some calls.Header) → (status_of cause ≢ 5 → bay.failed bay.new ≡ bay.failed bay.old) →
      bay.header bay.new ≡ bay.header bay.old → bay.files bay.new ≡ bay.files bay.old →
      bay.begun bay.new ≡ bay.begun bay.old → bay.changes bay.new ≡ bay.changes bay.old →
      NeverFalls (bay_before bay) (bay_after bay) → MeetsOnce (bay_before bay) (bay_after bay) →
      NeverFalls (sink_before sink) (sink_after sink) → MeetsOnce (sink_before sink) (sink_after sink) → InfoEnds bay sink cause
  info_ends cause m store_answered sink_answered failed none_failed header files begun changes bay_count bay_once sink_count sink_once =
      record {
        means = m;
        bad_header = bad_header cause m;
        complete = complete cause m;
        store_answered = store_answered;
        sink_answered = sink_answered;
        failed = failed;
        none_failed = none_failed;
        unchanged = record { header = header; files = files; begun = begun; changes = changes };
        bay_count = bay_count;
        bay_once = bay_once;
        sink_count = sink_count;
        sink_once = sink_once;
      }
