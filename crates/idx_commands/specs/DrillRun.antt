-- How a run of `drill` ends, by what is seen of the sink.
use Rattle.std.specs.Prelude.{◌≡◌, ◌⊎◌, ℕ, ◌<◌, List, [], ◌∷◌, ◌++◌, flat_map, codes}
use Rattle.std.specs.Fmt.{decimal}
use Rattle.idx_outside.specs.Cause.{MeetsOnce, NeverFalls, Rose}
use Rattle.idx_outside.specs.Contents.{appended, AppendsPrefix}
use Rattle.idx_drill.specs.Drilled.{DrillValue, IsReplayed, drill_value}
use Rattle.idx_drill.specs.declared.level.Level.{Level}
use Rattle.idx_commands.specs.declared.causes.Cause.{Cause}
use Rattle.idx_commands.specs.declared.causes.Cause.TheVariants as causes
use Rattle.idx_commands.specs.Cause.{status_of}
use Rattle.idx_commands.specs.Seen.{SinkSeen, sink_after, sink_before}
use Rattle.idx_commands.specs.Summary.{box_line, line}

-- the line of a level: how many samples have it, and the sum of their bytes
unfoldable pub level_line : Level → List ℕ
level_line l =
    codes "level " ++ decimal l.level ++ codes " samples " ++ decimal l.samples ++ codes " sum " ++ decimal l.sum ++ 10 ∷ []

-- the lines of the files, the reads and the events
unfoldable pub count_lines : DrillValue → List ℕ
count_lines d =
    codes "files " ++ decimal d.files ++ codes " bytes " ++ decimal d.bytes ++ 10 ∷ []
    ++ line (codes "reads") (decimal d.reads) ++ line (codes "events") (decimal d.events)

-- all lines
unfoldable pub drilled_text : DrillValue → List ℕ
drilled_text d = box_line d.box ++ flat_map level_line d.levels ++ count_lines d

-- what the drill of a number writes
abbrev pub drill_summary : ℕ → List ℕ
drill_summary n = drilled_text (drill_value n)

-- what each cause says; no other cause comes
abbrev pub DrillMeans : {K : Type 0} → ℕ → SinkSeen K → Cause → Type 0
DrillMeans n sink causes.Done = sink.contents sink.new ≡ appended (sink.contents sink.old) (drill_summary n)
DrillMeans n sink causes.SinkFault =
    Rose (sink_before sink) (sink_after sink)
    × AppendsPrefix (sink.contents sink.old) (sink.contents sink.new) (drill_summary n)
DrillMeans n sink causes.NoMemory = sink.new ≡ sink.old
DrillMeans n sink _ = ⊥

-- how a run with this number ends with this cause
pub record DrillEnds {K : Type 0} (n : ℕ) (sink : SinkSeen K) (cause : Cause) : Type 0 where
  -- what the cause says
  pub means : DrillMeans n sink cause
  -- at each cause but want of memory the events of the run were done once more, one after another, and all may happen; the
  -- answers are those of the run
  pub replayed : (status_of cause ≡ 0) ⊎ (status_of cause ≡ 9) → IsReplayed n
  -- where no fault was counted all is written, unless there is not enough memory
  pub complete : ¬ Rose (sink_before sink) (sink_after sink) → (status_of cause ≡ 0) ⊎ (status_of cause ≡ 11)
  -- a fault that was counted is answered, and the count did not fall; it was met once
  pub sink_answered : sink_before sink < sink_after sink → cause ≡ causes.SinkFault
  pub sink_count : NeverFalls (sink_before sink) (sink_after sink)
  pub sink_once : MeetsOnce (sink_before sink) (sink_after sink)
