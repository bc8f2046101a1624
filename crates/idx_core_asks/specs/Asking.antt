-- What an event of a question answers, and what it leaves.
use Rattle.std.specs.Prelude.{◌≡◌, ℕ, ◌<◌, ◌^◌, All, Bool, true, false, List, length, slice_get, slice_index, slice_set, Option, Some, None, Result, Ok, Err}
use Rattle.std.specs.Option.{option_map_or}
use Rattle.idx_hall.specs.Hall.{HallValue, IsBlockOf}
use Rattle.idx_hall.specs.Posts.{Post}
use Rattle.idx_layout.specs.Shape.{shape_of}
use Rattle.idx_events.specs.World.{Query}
use Rattle.idx_events.specs.Queries.{loaded_pairs, post_for}
use Rattle.idx_core_layers.specs.Division.{DivisionValue}
use Rattle.idx_core_layers.specs.declared.step_refusal.StepRefusal.{StepRefusal}
use Rattle.idx_core_layers.specs.declared.step_refusal.StepRefusal.TheVariants.{NotEnabled, NoMemory}
use Rattle.idx_core_asks.specs.Asked.{AreWhole, AskedValue, with_query}

-- the question of this number passes a test
abbrev pub asked_can : (Query → Bool) → ℕ → List AskedValue → Bool
asked_can test number asked = option_map_or (λ (x : AskedValue). test x.query) (slice_get asked number) false

-- A change of the question of a number, and of the hall with it: done exactly where it may happen; not enabled, or without
-- memory, nothing has changed.
abbrev pub IsAsking : (Query → Bool) → (Query → HallValue) → (Query → Query) → ℕ → List AskedValue → HallValue → Result (Unit {0}) StepRefusal → List AskedValue → HallValue → Type 0
IsAsking test k f number old h (Ok done) new l =
    (asked_can test number old ≡ true) × (x : AskedValue) × (slice_get old number ≡ Some x) × (new ≡ slice_set old number (with_query x (f x.query))) × (l ≡ k x.query)
IsAsking test k f number old h (Err NotEnabled) new l = (asked_can test number old ≡ false) × (new ≡ old) × (l ≡ h)
IsAsking test k f number old h (Err NoMemory) new l = (asked_can test number old ≡ true) × (new ≡ old) × (l ≡ h)

-- what a look may be made of: the question's post is on the board, and is of its timestep
pub record MayLook (h : HallValue) (x : Query) : Type 0 where
  pub few : x.ended < 2 ^ 62
  pub post : (n : ℕ) → post_for h.board x ≡ Some n → (p : Post) × (slice_get h.board n ≡ Some p) × (p.time ≡ x.ask.time)

-- what a read may be made of: the question has noted a post that tells what it stores, and the block is there
pub record MayRead (d : DivisionValue) (h : HallValue) (x : Query) (block : ℕ) : Type 0 where
  pub shape : h.shape ≡ shape_of d.header
  pub field : x.ask.field < length d.header.fields
  pub block_is : block < h.shape.blocks
  pub number : ℕ
  pub noted : x.post ≡ Some number
  pub post : Post
  pub at : slice_get h.board number ≡ Some post
  pub stored : List (List (List ℕ))
  pub told : post.stored ≡ Some stored

-- what a fill may be made of
pub record MayFill (h : HallValue) (x : Query) : Type 0 where
  pub few : x.ended < 2 ^ 62
  pub number : ℕ
  pub noted : x.post ≡ Some number
  pub post : Post
  pub at : slice_get h.board number ≡ Some post
  pub pairs : All (IsBlockOf h.shape post) (loaded_pairs x)

-- what an answer may be made of: each needed block is held, whole
pub record MayAnswer (x : AskedValue) : Type 0 where
  pub held : AreWhole x.plan x.query.kept
