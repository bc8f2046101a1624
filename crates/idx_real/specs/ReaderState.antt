-- What a contract sees of a reader of finished files.
use Rattle.std.specs.Prelude.{◌≡◌, ℕ, List, Option, IfSome}
use Rattle.idx_real.specs.Faults.{Faults}

-- an open file, and the bytes of the path that it was opened at
pub record OpenFile (F : Type 0) : Type 0 where
  pub path : List ℕ
  pub file : F

-- the file that was read last and is open, if one is, how many reads there were, and how many bytes they asked for, both modulo 2 ^ 64, and the faults
pub record ReaderState (F : Type 0) : Type 0 where
  pub last : Option (OpenFile F)
  pub reads : ℕ
  pub asked : ℕ
  pub faults : Faults

-- What a call found holds of a file of this path: the one that is open, where it was opened at that path, else one that the call
-- opened.
pub record OfFileAt {F : Type 0} (last : Option (OpenFile F)) (path : List ℕ) (Found : F → Type 0) : Type 0 where
  pub file : F
  pub same : IfSome last (λ o. o.path ≡ path → file ≡ o.file)
  pub found : Found file

-- the file that is open, if one is, is the one of this path
abbrev pub IsOpenAt : {F : Type 0} → List ℕ → Option (OpenFile F) → Type 0
IsOpenAt path last = IfSome last (λ o. o.path ≡ path)
