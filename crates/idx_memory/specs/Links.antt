-- Links and doors in memory: an input that comes in pieces, and the links that a door hands out and takes back.
use Rattle.std.specs.Prelude.{ℕ, List, [], ◌∷◌, ◌++◌, length, drop, min, Bool}
use Rattle.idx_memory.specs.Memory.{FaultState}
use Rattle.idx_outside.specs.Input.{Reading, reading_of}
use Rattle.idx_outside.specs.declared.served.Served.{Served}

-- an input: the bytes that are still to come, and how many of them each read to come gives at most
pub record InputState : Type 0 where
  pub bytes : List ℕ
  pub pieces : List ℕ

-- The most that the next read gives into so much room. Once no length is left, that is what fits.
abbrev pub most : List ℕ → ℕ → ℕ
most [] room = room
most (piece ∷ pieces) room = min piece room

-- how many bytes the next read gives into so much room
abbrev pub given : InputState → ℕ → ℕ
given input room = min (most input.pieces room) (length input.bytes)

-- After a read into so much room. A piece that did not fit is cut: what it had more comes with the next one.
abbrev pub after_reading : ℕ → InputState → InputState
after_reading room input = record { bytes = drop (given input room) input.bytes; pieces = drop 1 input.pieces }

-- a link: what is still to come, what was written, when it was read, and which of its calls fail
pub record LinkState : Type 0 where
  pub input : InputState
  pub written : List ℕ
  pub readings : List Reading
  pub script : FaultState

-- the link, of which is not told when it was read
abbrev pub unread : LinkState → LinkState
unread s = record { input = s.input; written = s.written; readings = []; script = s.script }

-- the readings of a link with one more
abbrev pub with_reading : LinkState → List Reading
with_reading s = s.readings ++ reading_of s.input.bytes s.written ∷ []

-- A door: the links still to come, those that were handed out, each as it was then, those that came back, with their
-- entries, and which of its calls fail. `kept` is true as long as no more links came back than were handed out.
pub record DoorState : Type 0 where
  pub coming : List LinkState
  pub handed : List LinkState
  pub finished : List (LinkState × List Served)
  pub kept : Bool
  pub script : FaultState

-- after the next link was handed out; where none is to come, nothing is
abbrev pub handing : DoorState → List LinkState → DoorState
handing s [] = s
handing s (link ∷ rest) =
    record { coming = rest; handed = s.handed ++ link ∷ []; finished = s.finished; kept = s.kept; script = s.script }
