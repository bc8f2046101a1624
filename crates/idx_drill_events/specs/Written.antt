-- What it takes to write a step whole, and what is written then.
use Rattle.std.specs.Prelude.{◌≡◌, ℕ, ◌<◌, true, nat_eq, List, [], ◌∷◌}
use Rattle.std.specs.List.{AllByRecursion, IsDistinct}
use Rattle.idx_hall.specs.Hall.{after_publish}
use Rattle.idx_events.specs.Lists.{has}
use Rattle.idx_events.specs.Setting.{Setting}
use Rattle.idx_events.specs.World.{World, Volume}
use Rattle.idx_events.specs.Volumes.{post_of_sealed}
use Rattle.idx_events.specs.declared.phase.Phase.TheVariants.{Published}

module _ (s : Setting) where
  -- no file and no piece stands twice, these are all pieces of the files, and their ranks are below a number
  pub record AreAll (pieces : List ℕ) (ranks : ℕ) : Type 0 where
    pub files_apart : IsDistinct nat_eq s.files
    pub pieces_apart : IsDistinct nat_eq pieces
    pub covered : AllByRecursion (λ file. AllByRecursion (λ piece. has piece pieces ≡ true) (s.pieces_in file)) s.files
    pub below : AllByRecursion (λ piece. AllByRecursion (λ rank. rank < ranks) (s.ranks piece)) pieces

  -- the one volume of a world is published, and its post stands on the board; the rest is as it was
  pub record IsWritten (w : World) (was : Volume) (u : World) : Type 0 where
    pub volume : Volume
    pub volumes : u.volumes ≡ volume ∷ []
    pub hall : u.hall ≡ after_publish (post_of_sealed s volume) w.hall
    pub queries : u.queries ≡ w.queries
    pub phase : volume.phase ≡ Published
    pub time : volume.time ≡ was.time
    pub revision : volume.revision ≡ was.revision
    pub raw : volume.raw ≡ was.raw
