-- What holds of a drill's run on its way.
use Rattle.std.specs.Prelude.{◌≡◌, ℕ, ◌<◌, true, List, [], ◌∷◌, length, map, get_or, slice_get, sum_by, Some, None}
use Rattle.std.specs.List.{range_with_len}
use Rattle.std.specs.Option.{option_map_or}
use Rattle.idx_events.specs.World.{Query}
use Rattle.idx_header.specs.Header.{block_count}
use Rattle.idx_layout.specs.Shape.{shape_of}
use Rattle.idx_hall.specs.Hall.{HallValue}
use Rattle.idx_hall.specs.Posts.{Post, bytes_at, has_at}
use Rattle.idx_plan.specs.Answer.{answer_of}
use Rattle.idx_core_model.specs.Headline.{CanBeAsked}
use Rattle.idx_core_model.specs.Layers.{answer_of_raw}
use Rattle.idx_plan.specs.declared.ask.Ask.{Ask}
use Rattle.idx_drill_model.specs.Blocks.{new_blocks}
use Rattle.idx_drill_model.specs.Cache.{CacheAt}
use Rattle.idx_drill_model.specs.Drill.{drill_header, drill_volume}
use Rattle.idx_drill.specs.Drilled.{drill_answer, drill_levels}

-- a post that has each block of the drill's dataset, and whose blocks answer each question as the volume does
pub record IsDrillPost (n : ℕ) (p : Post) : Type 0 where
  pub stored : List (List (List ℕ))
  pub told : p.stored ≡ Some stored
  pub answers : (ask : Ask) → CanBeAsked (drill_header n) ask →
      answer_of (drill_header n) ask (bytes_at stored) ≡ answer_of_raw (drill_header n) (drill_volume n) ask
  pub has : (block : ℕ) → block < block_count (drill_header n) → has_at p 0 block ≡ true

-- a hall in which that post alone is published, and the questions of the levels below a level were asked
pub record IsAskedBelow (n level : ℕ) (h : HallValue) : Type 0 where
  pub shape : h.shape ≡ shape_of (drill_header n)
  pub cache : CacheAt n level h
  pub post : Post
  pub board : h.board ≡ post ∷ []
  pub is : IsDrillPost n post

-- how many blocks the levels below a level read
abbrev pub reads_below : ℕ → ℕ → ℕ
reads_below n level = sum_by (λ l. length (new_blocks n l)) (range_with_len 0 level)

-- the answers of the levels below a level
abbrev pub answers_below : ℕ → ℕ → List (List ℕ)
answers_below n level = map (drill_answer n) (range_with_len 0 level)

-- questions have these answers, one by one
abbrev pub HasAnswers : List Query → List (List ℕ) → Type 0
HasAnswers queries answers =
    (k : ℕ) → k < length answers → option_map_or (λ (x : Query). x.answer) (slice_get queries k) None ≡ Some (get_or answers k [])

-- the question of each level has the answer of the level
abbrev pub AreAnswered : ℕ → List Query → Type 0
AreAnswered n queries = map (λ (x : Query). x.answer) queries ≡ map (λ level. Some (drill_answer n level)) (drill_levels n)
