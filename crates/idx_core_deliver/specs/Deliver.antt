-- What a dock gains by a piece of a raw volume.
use Rattle.std.specs.Prelude.{◌≡◌, ℕ, List}
use Rattle.idx_header.specs.Header.{HeaderValue}
use Rattle.idx_pieces.specs.Runs.{HasSamples}
use Rattle.idx_pieces.specs.Samples.{raw_sample}
use Rattle.idx_pieces.specs.declared.run.Run.{Run}
use Rattle.idx_dock.specs.Dock.{DockValue, dock_of, with_runs}
use Rattle.idx_dock.specs.Next.{IsOneOf}

-- a dock has some runs of a piece now, all of them with the samples of the volume whose raw input these bytes are, and
-- is the same else
pub record HasTaken (h : HeaderValue) (raw : List ℕ) (piece : ℕ) (old new : DockValue) : Type 0 where
  pub runs : List Run
  pub dock : new ≡ dock_of old.header old.file (with_runs piece runs old.awaited)
  pub samples : (r : Run) → IsOneOf runs r → HasSamples h (raw_sample h raw) r
