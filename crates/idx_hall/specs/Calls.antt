-- What the calls of a hall are given, and what they answer.
use Rattle.std.specs.Prelude.{◌≡◌, ◌≢◌, ℕ, Bool, List, map, Option, Some, IfSome, slice_get}
use Rattle.std.specs.Arc.{arc_value}
use Rattle.std.specs.declared.sync.Arc.{Arc}
use Rattle.idx_outside.specs.Shape.{Shape}
use Rattle.idx_hall.specs.Posts.{Post, IsPostOf, newest, post_of}
use Rattle.idx_hall.specs.Hall.{HallValue, IsBlockOf}
use Rattle.idx_hall.specs.declared.key.Key.{Key}
use Rattle.idx_hall.specs.declared.publish_refusal.PublishRefusal.{PublishRefusal}
use Rattle.idx_hall.specs.declared.publish_refusal.PublishRefusal.TheVariants.{AlreadyPublished, NoMemory}

-- what each refusal of a step of this time, which is to follow this post, says of the board
abbrev pub IsRefused : List Post → ℕ → Option ℕ → PublishRefusal → Type 0
IsRefused board time after (AlreadyPublished number) = (newest board time ≡ Some number) × (after ≢ Some number)
IsRefused board time after NoMemory = newest board time ≡ after

-- the post that a step of this time is to follow, if there is one, is of that time
abbrev pub IsAfter : List Post → ℕ → Option ℕ → Type 0
IsAfter board time after = IfSome after (λ number. (post : Post) × IsPostOf board time number post)

-- the step is the post of this number
pub record IsStepOf {E : Type 0} (time : E → ℕ) (shape : E → Shape) (has : E → ℕ → ℕ → Bool) (stored : E → Option (ℕ → ℕ → List ℕ))
    (h : HallValue) (number : ℕ) (e : E) : Type 0 where
  pub shaped : shape e ≡ h.shape
  pub at : slice_get h.board number ≡ Some (post_of h.shape (time e) (has e) (stored e))

-- what was found of each key is its block in the post
abbrev pub AreBlocksOf : Shape → Post → List Key → List (Option (List ℕ)) → Type 0
AreBlocksOf shape post keys blocks = (i : ℕ) (key : Key) (bytes : List ℕ) →
    slice_get keys i ≡ Some key → slice_get blocks i ≡ Some (Some bytes) → IsBlockOf shape post (key, bytes)

-- the keys of loaded blocks with their bytes
abbrev pub pairs_of : {X Z : Type 0} → List (Key × Arc X Z) → List (Key × X)
pairs_of loaded = map (λ pair. (pair.0, arc_value pair.1)) loaded
