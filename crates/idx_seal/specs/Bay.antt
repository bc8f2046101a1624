-- What sealing docks does to a bay.
use Rattle.std.specs.Prelude.{◌≡◌, ℕ, ◌<◌, List, Option, Some, Result, Ok, Err}
use Rattle.idx_outside.specs.Cause.{NeverFalls, Rose}
use Rattle.idx_outside.specs.Files.{StillAdmits}
use Rattle.idx_outside.specs.declared.bay_call.BayCall.{BayCall}
use Rattle.idx_outside.specs.declared.bay_call.BayCall.TheVariants.{Create, Retire}
use Rattle.idx_outside.specs.declared.bay_fault.BayFault.{BayFault}
use Rattle.idx_outside.specs.declared.bay_fault.BayFault.TheVariants.{Outage, NoMemory}
use Rattle.idx_outside.specs.declared.mem_file.MemFile.{MemFile}

-- the call makes a draft, or takes one that is given up
abbrev pub IsSealCall : Option BayCall → Type 0
IsSealCall (Some Create) = Unit {0}
IsSealCall (Some Retire) = Unit {0}
IsSealCall call = ⊥

-- The count of faults, and the call that counted the last one, before and after, by the answer: at a fault the count
-- rose by such a call, and else both are as they were.
abbrev pub Answers : {T : Type 0} → Result T BayFault → ℕ → ℕ → Option BayCall → Option BayCall → Type 0
Answers (Ok _) before after failed failed' = (after ≡ before) × (failed' ≡ failed)
Answers (Err NoMemory) before after failed failed' = (after ≡ before) × (failed' ≡ failed)
Answers (Err Outage) before after failed failed' = Rose before after × IsSealCall failed'

-- The same of drafts that are given up, which have counted so many faults: a fault is counted exactly where there are
-- some.
pub record GivesUp (faults before after : ℕ) (failed failed' : Option BayCall) : Type 0 where
  pub rose : 0 < faults → Rose before after
  pub call : 0 < faults → failed' ≡ Some Retire
  pub same : faults ≡ 0 → after ≡ before
  pub unfailed : faults ≡ 0 → failed' ≡ failed

module _ {S : Type 0} (header : S → Option (List ℕ)) (files : S → Option (List MemFile))
    (begun : S → Option (List ℕ)) (admits : S → List ℕ → Type 0) (faults : S → ℕ) where
  -- What stays of a bay: its header, its files, the folder last begun and the paths of which drafts may be made. The
  -- count of faults never falls.
  pub record Keeps (old new : S) : Type 0 where
    pub header_same : header new ≡ header old
    pub files_same : files new ≡ files old
    pub begun_same : begun new ≡ begun old
    pub still : StillAdmits admits old new
    pub count : NeverFalls (faults old) (faults new)
