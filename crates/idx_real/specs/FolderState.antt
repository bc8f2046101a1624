-- What a contract sees of the folder of a header file as a bay, and of its files.
use Rattle.std.specs.Prelude.{ℕ, List, Option, Some, None, Bool, nat_eq}
use Rattle.std.specs.List.{list_all, ends_with}
use Rattle.idx_outside.specs.Cause.{counted}
use Rattle.idx_outside.specs.Files.{LiesIn}
use Rattle.idx_outside.specs.declared.bay_call.BayCall.{BayCall}
use Rattle.idx_real.specs.Faults.{Faults}
use Rattle.idx_real.specs.declared.fault.Reason.{Reason}

-- The bytes of the header file's path, the folder that was last begun, whether a staged folder is locked, how many calls
-- changed the bay, modulo 2 ^ 64, the call that counted the last fault, its path, where it is not the header file's, and
-- the faults.
pub record FolderState : Type 0 where
  pub path : List ℕ
  pub begun : Option (List ℕ)
  pub held : Bool
  pub changes : ℕ
  pub call : Option BayCall
  pub failed : Option (List ℕ)
  pub faults : Faults

-- after one more fault, of this call, at this path
abbrev pub failed_at : BayCall → Option (List ℕ) → Reason → FolderState → FolderState
failed_at call place reason s =
    record {
      path = s.path;
      begun = s.begun;
      held = s.held;
      changes = s.changes;
      call = Some call;
      failed = place;
      faults = record { count = counted s.faults.count; last = Some reason };
    }

-- a path in the folder that was last begun
abbrev pub InStep : Option (List ℕ) → List ℕ → Type 0
InStep None path = ⊥
InStep (Some folder) path = LiesIn folder path

-- a file that is being written: the open file, its path where it is staged, its path once it is committed, and the faults
pub record DraftState (F : Type 0) : Type 0 where
  pub file : F
  pub staged : List ℕ
  pub path : List ℕ
  pub faults : Faults

-- a finished file: its path once it is committed, its length, and how many faults its draft had
pub record LeafState : Type 0 where
  pub path : List ℕ
  pub len : ℕ
  pub faults : ℕ

-- Whether each leaf was written for the path that it is to stand under: its own path ends with that one.
abbrev pub are_of_their_paths : List (List ℕ × LeafState) → Bool
are_of_their_paths leaves = list_all (λ entry. ends_with nat_eq entry.1.path entry.0) leaves
