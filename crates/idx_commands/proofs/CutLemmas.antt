-- What a run of `cut` comes to, by what its cause says.
use Rattle.std.proofs.Common.{◌≡◌, ◌≢◌, ◌⊎◌, ℕ, ◌<◌, List, length, inl, inr, refl, sym, ◌∙◌}
use Rattle.idx_outside.specs.Cause.{MeetsOnce, NeverFalls, Rose}
use Rattle.idx_outside.specs.Objects.{UsesOnly}
use Rattle.idx_words.specs.declared.cut_words.CutWords.{CutWords}
use Rattle.idx_words.specs.CutGrammar.{IsSound}
use Rattle.idx_raw.specs.Cut as cuts
use Rattle.idx_commands.specs.declared.causes.Cause.{Cause}
use Rattle.idx_commands.specs.declared.causes.Cause.TheVariants as causes
use Rattle.idx_commands.specs.Cause.{status_of}
use Rattle.idx_commands.specs.CutOutput.{cut_of}
use Rattle.idx_commands.specs.CutRun.{CutEnds, CutMeans, HasOtherSize, HasRightSize}
use Rattle.idx_commands.specs.Seen.{RawsSeen, SinkSeen, raw_after, raw_asked_after, raw_asked_before, raw_before, raw_bytes, sink_after, sink_before}
use Rattle.idx_commands.proofs.KnownLemmas.{both_hold}

-- values of words that are sound ask for a sound cut
pub cut_sound : (c : CutWords) → IsSound c → cuts.IsSound (cut_of c)
cut_sound c h =
    record {
      some = h.some;
      few = h.few;
      small = h.small;
      covered = h.covered;
      lower = h.lower;
      upper = h.upper;
      ordered = h.ordered;
      deepest = h.deepest;
    }

module _ {V K : Type 0} (c : CutWords) (raws : RawsSeen V) (sink : SinkSeen K) where
  abbrev Means : Cause → Type 0
  Means cause = CutMeans c (raw_bytes raws) (raw_before raws) (raw_after raws) sink cause

  -- a raw volume has one length
  lengths_differ : (n : ℕ) (bytes : List ℕ) → length bytes ≡ n → length bytes ≢ n → ⊥
  lengths_differ n bytes right wrong = wrong right

  other_size : (cause : Cause) → Means cause → HasOtherSize c (raw_bytes raws) →
      (status_of cause ≡ 3) ⊎ (status_of cause ≡ 4)
  other_size causes.Done m other =
      absurd (both_hold (raw_bytes raws) _ _ (lengths_differ (cuts.volume_bytes (cut_of c))) m.0 other)
  other_size (causes.RawWrongSize want found) m other = inl refl
  other_size causes.RawFault m other = inr refl
  other_size causes.SinkFault m other =
      absurd (both_hold (raw_bytes raws) _ _ (lengths_differ (cuts.volume_bytes (cut_of c))) m.0 other)
  other_size causes.NoMemory m other =
      absurd (both_hold (raw_bytes raws) _ _ (lengths_differ (cuts.volume_bytes (cut_of c))) m.0.0 other)
  other_size _ m other = absurd m

  found_right : (want found : ℕ) → want ≡ cuts.volume_bytes (cut_of c) → found ≢ want → (bytes : List ℕ) → found ≡ length bytes →
      length bytes ≡ cuts.volume_bytes (cut_of c) → ⊥
  found_right want found asks other bytes same right = other (same ∙ right ∙ sym asks)

  complete : (cause : Cause) → Means cause → HasRightSize c (raw_bytes raws) →
      ¬ Rose (raw_before raws) (raw_after raws) → ¬ Rose (sink_before sink) (sink_after sink) →
      (status_of cause ≡ 0) ⊎ (status_of cause ≡ 11)
  complete causes.Done m right quiet taken = inl refl
  complete (causes.RawWrongSize want found) m right quiet taken =
      absurd (both_hold (raw_bytes raws) _ _ (found_right want found m.0.0 m.0.1) m.0.2 right)
  complete causes.RawFault m right quiet taken = absurd (quiet m.0)
  complete causes.SinkFault m right quiet taken = absurd (taken m.1)
  complete causes.NoMemory m right quiet taken = inr refl
  complete _ m right quiet taken = absurd m

  pub cut_silent : (cause : Cause) → Means cause → status_of cause ≢ 0 → status_of cause ≢ 9 → sink.new ≡ sink.old
  cut_silent causes.Done m zero nine = absurd (zero refl)
  cut_silent (causes.RawWrongSize want found) m zero nine = m.1
  cut_silent causes.RawFault m zero nine = m.1
  cut_silent causes.SinkFault m zero nine = absurd (nine refl)
  cut_silent causes.NoMemory m zero nine = m.1
  cut_silent _ m zero nine = absurd m

  pub cut_ends : (cause : Cause) → Means cause →
      ((status_of cause ≡ 3) ⊎ HasOtherSize c (raw_bytes raws) → raw_asked_after raws ≡ raw_asked_before raws) →
      (raw_before raws < raw_after raws → cause ≡ causes.RawFault) →
      (sink_before sink < sink_after sink → cause ≡ causes.SinkFault) → UsesOnly raws.contents raws.faults 0 raws.old raws.new →
      MeetsOnce (raw_before raws) (raw_after raws) → NeverFalls (sink_before sink) (sink_after sink) → MeetsOnce (sink_before sink) (sink_after sink) → CutEnds c raws sink cause
  cut_ends cause m unread raw_answered sink_answered kept raw_once count sink_once =
      record {
        means = m;
        other_size = other_size cause m;
        unread = unread;
        complete = complete cause m;
        raw_answered = raw_answered;
        sink_answered = sink_answered;
        raws_kept = kept;
        raw_once = raw_once;
        sink_count = count;
        sink_once = sink_once;
      }
