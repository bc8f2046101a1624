-- The forms in memory: bytes, and the calls that are to fail.
use Rattle.std.specs.Prelude.{ℕ, ◌+◌, ◌%◌, ◌^◌, List, [], ◌∷◌, ◌++◌, length, take, drop, replicate, Contains, Bool, Option, None, Some, nat_lt, if◌then◌else◌}
use Rattle.idx_outside.specs.Cause.{counted}
use Rattle.idx_outside.specs.declared.bay_call.BayCall.{BayCall}
use Rattle.idx_outside.specs.declared.mem_file.MemFile.{MemFile}

-- so many more, modulo 2 ^ 64
abbrev pub more : ℕ → ℕ → ℕ
more count n = (count + n) % 2 ^ 64

-- the numbers of the calls that are to fail, how many calls there were, and how many faults
pub record FaultState : Type 0 where
  pub fails : List ℕ
  pub calls : ℕ
  pub faults : ℕ

-- before the first call
abbrev pub untouched : List ℕ → FaultState
untouched fails = record { fails = fails; calls = 0; faults = 0 }

-- The call that comes next is to fail. Calls are numbered from 1, and their number stands still at 2 ^ 64 - 1.
abbrev pub NextFails : FaultState → Type 0
NextFails s = Contains s.fails (counted s.calls)

-- after a call that counted no fault, or one
abbrev pub after_call : Bool → FaultState → FaultState
after_call succeeded s =
    record { fails = s.fails; calls = counted s.calls; faults = (if succeeded then s.faults else counted s.faults) }

-- the bytes of an object in memory, and which of its calls fail
pub record MemState : Type 0 where
  pub bytes : List ℕ
  pub script : FaultState

-- a file in memory: its bytes, its path, where it is told, and how many faults its draft had counted
pub record LeafState : Type 0 where
  pub bytes : List ℕ
  pub path : Option (List ℕ)
  pub faults : ℕ

-- a file of which its bytes alone are told
abbrev pub file_of_bytes : List ℕ → LeafState
file_of_bytes bytes = record { bytes = bytes; path = None; faults = 0 }

-- the file of a path and its bytes
abbrev pub file_at_path : List ℕ → List ℕ → LeafState
file_at_path path bytes = record { bytes = bytes; path = Some path; faults = 0 }

-- a file in memory that is being written: its bytes, its path, and which of its calls fail
pub record DraftState : Type 0 where
  pub bytes : List ℕ
  pub path : List ℕ
  pub script : FaultState

-- a source in memory that never fails: its bytes, and how many of them were asked for, modulo 2 ^ 64
pub record SourceBytes : Type 0 where
  pub bytes : List ℕ
  pub asked : ℕ

-- a source in memory: its bytes, how many of them were asked for, modulo 2 ^ 64, and which of its calls fail
pub record SourceState : Type 0 where
  pub bytes : List ℕ
  pub asked : ℕ
  pub script : FaultState

-- the header's text, empty where none stands, the committed files, and how many calls changed the bay, modulo 2 ^ 64
pub record BayContents : Type 0 where
  pub header : List ℕ
  pub files : List MemFile
  pub changes : ℕ

-- A bay in memory, and which of its calls fail: `begun` is the folder that was last begun, `changes` how many calls
-- changed the bay, modulo 2 ^ 64, `failed` the call that counted the last fault, and `drafts` are the numbers of the
-- failing calls of each draft to come.
pub record BayState : Type 0 where
  pub header : List ℕ
  pub files : List MemFile
  pub begun : Option (List ℕ)
  pub changes : ℕ
  pub failed : Option BayCall
  pub drafts : List (List ℕ)
  pub script : FaultState

-- the numbers of the failing calls of the next draft; none where no list is left
abbrev pub next_draft : List (List ℕ) → List ℕ
next_draft [] = []
next_draft (fails ∷ drafts) = fails

-- after a draft with so many faults was given up
abbrev pub after_retire : ℕ → FaultState → FaultState
after_retire faults s =
    record { fails = s.fails; calls = s.calls; faults = (if nat_lt 0 faults then counted s.faults else s.faults) }

-- what was read: how many calls there were, and how many bytes they asked for, both modulo 2 ^ 64
pub record Reads : Type 0 where
  pub calls : ℕ
  pub bytes : ℕ

-- before the first read
abbrev pub no_reads : Reads
no_reads = record { calls = 0; bytes = 0 }

-- after one more read, of so many bytes
abbrev pub after_read : ℕ → Reads → Reads
after_read count reads = record { calls = more reads.calls 1; bytes = more reads.bytes count }

-- a reader in memory: what was read, and which of its calls fail
pub record ReaderState : Type 0 where
  pub reads : Reads
  pub script : FaultState

-- a file of which nothing is told: its length, and the bytes that are kept of it, behind which it reads as zeros
pub record KeptFile : Type 0 where
  pub len : ℕ
  pub bytes : List ℕ

-- a file whose bytes are all kept
abbrev pub kept_whole : List ℕ → KeptFile
kept_whole bytes = record { len = length bytes; bytes = bytes }

-- so many bytes of a file from a place on
abbrev pub kept_range : KeptFile → ℕ → ℕ → List ℕ
kept_range file at count = take count (drop at file.bytes ++ replicate count 0)
