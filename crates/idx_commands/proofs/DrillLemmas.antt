-- What a run of `drill` comes to, by what its cause says.
use Rattle.std.proofs.Common.{◌≡◌, ◌≢◌, ◌⊎◌, ℕ, ◌<◌, inl, inr, refl}
use Rattle.idx_outside.specs.Cause.{MeetsOnce, NeverFalls, Rose}
use Rattle.idx_drill.specs.Drilled.{IsReplayed}
use Rattle.idx_commands.specs.declared.causes.Cause.{Cause}
use Rattle.idx_commands.specs.declared.causes.Cause.TheVariants as causes
use Rattle.idx_commands.specs.Cause.{status_of}
use Rattle.idx_commands.specs.DrillRun.{DrillEnds, DrillMeans}
use Rattle.idx_commands.specs.Seen.{SinkSeen, sink_after, sink_before}

module _ {K : Type 0} (n : ℕ) (sink : SinkSeen K) where
  complete : (cause : Cause) → DrillMeans n sink cause → ¬ Rose (sink_before sink) (sink_after sink) →
      (status_of cause ≡ 0) ⊎ (status_of cause ≡ 11)
  complete causes.Done m taken = inl refl
  complete causes.SinkFault m taken = absurd (taken m.0)
  complete causes.NoMemory m taken = inr refl
  complete _ m taken = absurd m

  pub drill_silent : (cause : Cause) → DrillMeans n sink cause → status_of cause ≢ 0 → status_of cause ≢ 9 → sink.new ≡ sink.old
  drill_silent causes.Done m zero nine = absurd (zero refl)
  drill_silent causes.SinkFault m zero nine = absurd (nine refl)
  drill_silent causes.NoMemory m zero nine = m
  drill_silent _ m zero nine = absurd m

  pub drill_ends : (cause : Cause) → DrillMeans n sink cause → ((status_of cause ≡ 0) ⊎ (status_of cause ≡ 9) → IsReplayed n) →
      (sink_before sink < sink_after sink → cause ≡ causes.SinkFault) → NeverFalls (sink_before sink) (sink_after sink) → MeetsOnce (sink_before sink) (sink_after sink) → DrillEnds n sink cause
  drill_ends cause m replayed sink_answered sink_count sink_once =
      record {
        means = m;
        replayed = replayed;
        complete = complete cause m;
        sink_answered = sink_answered;
        sink_count = sink_count;
        sink_once = sink_once;
      }
