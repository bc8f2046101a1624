-- The headline: what holds of the published files, of the cache and of the answers, in the words of the dataset alone.
use Rattle.std.specs.Prelude.{◌≡◌, ℕ, ◌≤◌, ◌<◌, true, List, [], length, map, filter, Some, None}
use Rattle.std.specs.List.{AllByRecursion, flat_map, slice_index_or}
use Rattle.std.specs.Option.{IsSome}
use Rattle.idx_geom.specs.Region.{points}
use Rattle.idx_geom.specs.Volume.{sample_at}
use Rattle.idx_header.specs.Header.{HasTime, HeaderValue, IsHeader, at_revision, volume_bytes}
use Rattle.idx_layout.specs.Shape.{shape_of}
use Rattle.idx_layout.specs.Step.{step_files, volume_of_raw}
use Rattle.idx_rowmajor.specs.declared.layout.Layout.TheVariants.{Hz}
use Rattle.idx_board.specs.Standing.{step_post}
use Rattle.idx_hall.specs.Hall.{HallOk}
use Rattle.idx_hall.specs.Posts.{Post}
use Rattle.idx_plan.specs.Needed.{plan_fault}
use Rattle.idx_plan.specs.declared.ask.Ask.{Ask}
use Rattle.idx_events.specs.Lists.{AnyOf}
use Rattle.idx_events.specs.World.{World, Volume, Query, is_published}
use Rattle.idx_events.specs.Volumes.{count_of, sealed_files, is_post_of, is_published_of}
use Rattle.idx_events.specs.Queries.{post_at}
use Rattle.idx_core_model.specs.Layers.{step_of, answer_of_raw}

module _ (h : HeaderValue) where
  -- the header has a time, and pieces of e digits and n ranks can divide its box
  pub record IsDivided (e n : ℕ) : Type 0 where
    pub header : IsHeader h
    pub time : IsSome h.steps
    pub digits : e ≤ length h.mask
    pub ranks : 1 ≤ n

  -- a question that can be asked: its field is there, its region has the dataset's axes, and it has a plan
  pub record CanBeAsked (ask : Ask) : Type 0 where
    pub field : ask.field < length h.fields
    pub axes : length ask.region ≡ length h.box
    pub plan : plan_fault h ask ≡ None

  -- What a world takes: whole volumes of timesteps of the header, at most 256 of each, which are its revisions in order; and
  -- questions that can be asked.
  pub record IsTaken (volumes : List (ℕ × List ℕ)) (asks : List Ask) : Type 0 where
    pub steps : AllByRecursion (λ v. HasTime h v.0) volumes
    pub few : (time : ℕ) → count_of time (map (λ v. v.0) volumes) ≤ 256
    pub whole : AllByRecursion (λ v. length v.1 ≡ volume_bytes h) volumes
    pub asked : AllByRecursion CanBeAsked asks

  -- the files that one rank writes of the whole volume of a timestep's revision
  abbrev pub files_of_volume : Volume → List (List ℕ × List ℕ)
  files_of_volume v = step_files Hz (at_revision v.revision h) (volume_of_raw h v.raw) v.time

  -- the post of these files
  abbrev pub post_of_volume : Volume → Post
  post_of_volume v = step_post (step_of (files_of_volume v)) v.time (at_revision v.revision h)

  -- all samples of a field in a region, out of the volume whose raw input these bytes are, in row-major order
  abbrev pub region_samples : List ℕ → ℕ → List (ℕ × ℕ) → List ℕ
  region_samples raw field region = flat_map (sample_at h.box (slice_index_or (volume_of_raw h raw) field [])) (points region)

  -- These bytes are the samples that the question asks for, of a published volume of the question's timestep, whose post the
  -- question noted. A question for all levels is answered with all samples of its region.
  pub record IsAnswerFrom (board : List Post) (x : Query) (bytes : List ℕ) (v : Volume) : Type 0 where
    pub phase : is_published v.phase ≡ true
    pub time : v.time ≡ x.ask.time
    pub post : post_at board x ≡ Some (post_of_volume v)
    pub answer : bytes ≡ answer_of_raw h v.raw x.ask
    pub whole : x.ask.lo ≡ 0 → x.ask.hi ≡ length h.mask → bytes ≡ region_samples v.raw x.ask.field x.ask.region

  -- Published files are byte for byte those that one rank writes for the whole volume. The posts of each timestep are those of
  -- its published revisions, in order; the blocks have the dataset's shape. Each cached entry is its published block, that of
  -- the newest revision of its timestep. Each answer is exactly the samples that its question asks for, of a published revision
  -- of the timestep that it asks for.
  pub record HeadlineHolds (w : World) : Type 0 where
    pub files : AllByRecursion (λ v. is_published v.phase ≡ true → sealed_files v.slots ≡ files_of_volume v) w.volumes
    pub posts : (time : ℕ) → filter (is_post_of time) w.hall.board ≡ map post_of_volume (filter (is_published_of time) w.volumes)
    pub shape : w.hall.shape ≡ shape_of h
    pub cache : HallOk w.hall
    pub answers : AllByRecursion (λ x. (bytes : List ℕ) → x.answer ≡ Some bytes → AnyOf (IsAnswerFrom w.hall.board x bytes) w.volumes) w.queries
