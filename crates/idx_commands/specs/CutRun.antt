-- How a run of `cut` ends, by what is seen of the raw volumes and of the sink.
use Rattle.std.specs.Prelude.{◌≡◌, ◌⊎◌, ℕ, ◌<◌, List, length, Option, IfSome, IsSomeAnd}
use Rattle.idx_outside.specs.Cause.{MeetsOnce, NeverFalls, Rose}
use Rattle.idx_outside.specs.Contents.{appended, AppendsPrefix}
use Rattle.idx_outside.specs.Objects.{UsesOnly}
use Rattle.idx_raw.specs.Cut as cuts
use Rattle.idx_raw.specs.declared.cut_fault.CutFault.{CutFault}
use Rattle.idx_raw.specs.declared.cut_fault.CutFault.TheVariants as faults
use Rattle.idx_words.specs.declared.cut_words.CutWords.{CutWords}
use Rattle.idx_commands.specs.declared.causes.Cause.{Cause}
use Rattle.idx_commands.specs.declared.causes.Cause.TheVariants as causes
use Rattle.idx_commands.specs.Cause.{status_of}
use Rattle.idx_commands.specs.CutOutput.{cut_of, cut_output}
use Rattle.idx_commands.specs.Seen.{RawsSeen, SinkSeen, raw_after, raw_asked_after, raw_asked_before, raw_before, raw_bytes, sink_after, sink_before}

-- the cause of a run that ends since nothing was cut
abbrev pub cause_of_cut : CutFault → Cause
cause_of_cut (faults.RawWrongSize want found) = causes.RawWrongSize want found
cause_of_cut faults.RawFault = causes.RawFault
cause_of_cut faults.NoMemory = causes.NoMemory

-- A raw volume whose bytes are known has as many as the words ask for.
abbrev pub HasSize : CutWords → Option (List ℕ) → Type 0
HasSize c raw = cuts.HasSize (cut_of c) raw

-- its bytes are known, but are not as many
abbrev pub HasOtherSize : CutWords → Option (List ℕ) → Type 0
HasOtherSize c raw = cuts.HasOtherSize (cut_of c) raw

-- its bytes are known, and are as many
abbrev pub HasRightSize : CutWords → Option (List ℕ) → Type 0
HasRightSize c raw = IsSomeAnd raw (λ bytes. length bytes ≡ cuts.volume_bytes (cut_of c))

-- Nothing was cut since there is this fault, and nothing was written.
abbrev pub CutsNone : {K : Type 0} → CutWords → Option (List ℕ) → ℕ → ℕ → SinkSeen K → CutFault → Type 0
CutsNone c raw before after sink fault = cuts.IsCause (cut_of c) raw before after fault × (sink.new ≡ sink.old)

-- What each cause says of the raw volume, what is known of its bytes and its counts of faults before and after, and of the sink.
-- No other cause comes.
abbrev pub CutMeans : {K : Type 0} → CutWords → Option (List ℕ) → ℕ → ℕ → SinkSeen K → Cause → Type 0
CutMeans c raw before after sink causes.Done =
    HasSize c raw × IfSome raw (λ bytes. sink.contents sink.new ≡ appended (sink.contents sink.old) (cut_output c bytes))
CutMeans c raw before after sink causes.SinkFault =
    HasSize c raw × Rose (sink_before sink) (sink_after sink)
    × IfSome raw (λ bytes. AppendsPrefix (sink.contents sink.old) (sink.contents sink.new) (cut_output c bytes))
CutMeans c raw before after sink (causes.RawWrongSize want found) =
    CutsNone c raw before after sink (faults.RawWrongSize want found)
CutMeans c raw before after sink causes.RawFault = CutsNone c raw before after sink faults.RawFault
CutMeans c raw before after sink causes.NoMemory = CutsNone c raw before after sink faults.NoMemory
CutMeans c raw before after sink _ = ⊥

-- how a run ends with this cause
pub record CutEnds {V K : Type 0} (c : CutWords) (raws : RawsSeen V) (sink : SinkSeen K) (cause : Cause) : Type 0 where
  -- what the cause says
  pub means : CutMeans c (raw_bytes raws) (raw_before raws) (raw_after raws) sink cause
  -- a raw volume of another length is refused, unless a call on it failed
  pub other_size : HasOtherSize c (raw_bytes raws) → (status_of cause ≡ 3) ⊎ (status_of cause ≡ 4)
  -- where its length is refused, or is known to be another one, no byte was asked of it
  pub unread : (status_of cause ≡ 3) ⊎ HasOtherSize c (raw_bytes raws) → raw_asked_after raws ≡ raw_asked_before raws
  -- where nothing is wrong and no fault was counted, all is written, unless there is not enough memory
  pub complete : HasRightSize c (raw_bytes raws) → ¬ Rose (raw_before raws) (raw_after raws) →
      ¬ Rose (sink_before sink) (sink_after sink) → (status_of cause ≡ 0) ⊎ (status_of cause ≡ 11)
  -- a fault that was counted is answered
  pub raw_answered : raw_before raws < raw_after raws → cause ≡ causes.RawFault
  pub sink_answered : sink_before sink < sink_after sink → cause ≡ causes.SinkFault
  -- what is known of the raw volumes' bytes stays, none but the first was touched, and no count fell; each fault was met
  -- once
  pub raws_kept : UsesOnly raws.contents raws.faults 0 raws.old raws.new
  pub raw_once : MeetsOnce (raw_before raws) (raw_after raws)
  pub sink_count : NeverFalls (sink_before sink) (sink_after sink)
  pub sink_once : MeetsOnce (sink_before sink) (sink_after sink)
