-- What a drill does, and what it says of it.
use Rattle.std.specs.Prelude.{◌≡◌, ℕ, ◌+◌, ◌^◌, true, List, [], ◌∷◌, ◌++◌, length, map, sum, Some}
use Rattle.std.specs.List.{range_with_len}
use Rattle.idx_header.specs.Header.{block_count}
use Rattle.idx_layout.specs.Step.{step_files, volume_of_raw}
use Rattle.idx_rowmajor.specs.declared.layout.Layout.TheVariants.{Hz}
use Rattle.idx_pieces.specs.Digits.{piece_digits}
use Rattle.idx_pieces.specs.Pieces.{pieces_of}
use Rattle.idx_events.specs.Setting.{Setting}
use Rattle.idx_events.specs.World.{World}
use Rattle.idx_events.specs.Events.{all_enabled, run}
use Rattle.idx_events.specs.Start.{new_world}
use Rattle.idx_events.specs.declared.event.Event.{Event}
use Rattle.idx_core_model.specs.Layers.{answer_of_raw}
use Rattle.idx_core_layers.specs.Division.{DivisionValue, layers_of}
use Rattle.idx_core.specs.World.{CoreValue}
use Rattle.idx_drill_events.specs.Lists.{Asking, all_asked, written}
use Rattle.idx_drill_model.specs.Blocks.{blocks_at, new_blocks}
use Rattle.idx_drill.specs.declared.level.Level.{Level}
use Rattle.idx_drill_model.specs.Drill.{drill_ask, drill_asks, drill_box, drill_capacity, drill_depth, drill_header, drill_volume}

-- how many ranks write the step
abbrev pub drill_ranks : ℕ
drill_ranks = 4

-- the dataset, divided as a run divides it
abbrev pub drill_division : ℕ → DivisionValue
drill_division n =
    record { header = drill_header n; digits = piece_digits (drill_header n) (2 ^ 28); ranks = drill_ranks }

abbrev pub drill_layers : ℕ → Setting
drill_layers n = layers_of (drill_division n)

-- the ids of its pieces
abbrev pub drill_pieces : ℕ → List ℕ
drill_pieces n = map (λ piece. piece.id) (pieces_of (drill_header n) (piece_digits (drill_header n) (2 ^ 28)) drill_ranks)

-- the question for a level, with its blocks and those of them that no coarser level needs
abbrev pub drill_asking : ℕ → ℕ → Asking
drill_asking n level =
    record { ask = drill_ask n level; post = 0; blocks = blocks_at n level; missing = new_blocks n level }

abbrev pub drill_levels : ℕ → List ℕ
drill_levels n = range_with_len 0 (drill_depth n + 1)

abbrev pub drill_questions : ℕ → List Asking
drill_questions n = map (drill_asking n) (drill_levels n)

-- the events: the step is written and published, and then each level is asked for, coarsest first
abbrev pub drill_events : ℕ → List Event
drill_events n = written (drill_layers n) 0 0 (drill_pieces n) drill_ranks ++ all_asked 0 (drill_questions n)

-- the world in which they happen
abbrev pub drill_world : ℕ → World
drill_world n = new_world (drill_layers n) ((0, drill_volume n) ∷ []) (drill_asks n) drill_capacity

-- the answer to the question for a level: the samples of the volume that have it
abbrev pub drill_answer : ℕ → ℕ → List ℕ
drill_answer n level = answer_of_raw (drill_header n) (drill_volume n) (drill_ask n level)

-- the files that one rank writes of the volume, by their paths
abbrev pub drill_files : ℕ → List (List ℕ × List ℕ)
drill_files n = step_files Hz (drill_header n) (volume_of_raw (drill_header n) (drill_volume n)) 0

-- the world after all of them
abbrev pub drilled_world : ℕ → CoreValue
drilled_world n = record { layers = drill_division n; world = run (drill_layers n) (drill_world n) (drill_events n) }

-- All events of the drill may happen, and the answers afterwards are those of the volume.
pub record IsReplayed (n : ℕ) : Type 0 where
  pub may : all_enabled (drill_layers n) (drill_world n) (drill_events n) ≡ true
  pub answers : map (λ x. x.answer) (run (drill_layers n) (drill_world n) (drill_events n)).queries ≡
      map (λ level. Some (drill_answer n level)) (drill_levels n)

-- What a drill says: its box; of each level how many samples it has and the sum of their bytes; by how many ranks how many files were written, and how many
-- bytes these have; how many blocks were read; how many events there were; and the world in which these were done.
pub record DrillValue : Type 0 where
  pub box : List (ℕ × ℕ)
  pub levels : List Level
  pub ranks : ℕ
  pub files : ℕ
  pub bytes : ℕ
  pub reads : ℕ
  pub events : ℕ
  pub world : CoreValue

-- what is said of a level, by its answer of one-byte samples
abbrev pub level_of : ℕ → List ℕ → Level
level_of level answer = record { level = level; samples = length answer; sum = sum answer }

abbrev pub drill_level : ℕ → ℕ → Level
drill_level n level = level_of level (drill_answer n level)

abbrev pub drill_value : ℕ → DrillValue
drill_value n = record {
  box = drill_box n;
  levels = map (drill_level n) (drill_levels n);
  ranks = drill_ranks;
  files = length (drill_files n);
  bytes = sum (map (λ file. length file.1) (drill_files n));
  reads = block_count (drill_header n);
  events = length (drill_events n);
  world = drilled_world n;
}
