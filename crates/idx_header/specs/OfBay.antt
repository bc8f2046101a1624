-- What reading the header of a bay promises, by what is known of the header's text and by the counts of the bay's faults.
use Rattle.std.specs.Prelude.{◌≡◌, ◌≢◌, ℕ, Bool, true, false, List, [], Option, Some, None, IfSome, Result, Ok, Err, OnOk}
use Rattle.idx_outside.specs.Cause.{AnswersRise, MeetsOnce, NeverFalls, Rose}
use Rattle.idx_outside.specs.Files.{StillAdmits}
use Rattle.idx_outside.specs.declared.mem_file.MemFile.{MemFile}
use Rattle.idx_header.specs.Header.{HeaderValue}
use Rattle.idx_header.specs.HeaderOf.{header_of}
use Rattle.idx_header.specs.declared.header_kind.HeaderKind.{HeaderKind}
use Rattle.idx_header.specs.declared.header_kind.HeaderKind.TheVariants as kinds
use Rattle.idx_header.specs.declared.header_refusal.HeaderRefusal.{HeaderRefusal}
use Rattle.idx_header.specs.declared.header_refusal.HeaderRefusal.TheVariants.{Fault, Outage, NoMemory}

-- The text, where it is known, is that of this header.
abbrev pub Gives : Option (List ℕ) → HeaderValue → Type 0
Gives text header = IfSome text (λ known. header_of known ≡ Ok header)

-- The same, where a header stands: where it is known that none does, there is none.
abbrev pub GivesStanding : Option (List ℕ) → Option HeaderValue → Type 0
GivesStanding text None = IfSome text (λ known. known ≡ [])
GivesStanding text (Some header) = IfSome text (λ known. (known ≢ []) × (header_of known ≡ Ok header))

-- On this line of a text stands this fault, the first of the text.
abbrev pub IsFaultOf : List ℕ → ℕ → HeaderKind → Type 0
IsFaultOf text line kind = header_of text ≡ Err (record { line = line; kind = kind })

-- The same of a text that is not empty.
abbrev pub IsFaultOfSome : List ℕ → ℕ → HeaderKind → Type 0
IsFaultOfSome text line kind = (text ≢ []) × IsFaultOf text line kind

-- What each refusal says, where a faulty text means this, of the counts of the bay before and after.
abbrev pub IsRefusal : (List ℕ → ℕ → HeaderKind → Type 0) → Option (List ℕ) → ℕ → ℕ → HeaderRefusal → Type 0
IsRefusal IsFault text before after (Fault line kind) =
    (kind ≢ kinds.NoMemory) × IfSome text (λ known. IsFault known line kind) × (after ≡ before)
IsRefusal IsFault text before after Outage = Rose before after
IsRefusal IsFault text before after NoMemory = after ≡ before

-- The same of asking the bay for the text alone, and of reading a text alone.
abbrev pub IsAskedRefusal : ℕ → ℕ → HeaderRefusal → Type 0
IsAskedRefusal before after (Fault line kind) = ⊥
IsAskedRefusal before after Outage = Rose before after
IsAskedRefusal before after NoMemory = after ≡ before

abbrev pub IsTextRefusal : List ℕ → HeaderRefusal → Type 0
IsTextRefusal text (Fault line kind) = (kind ≢ kinds.NoMemory) × IsFaultOf text line kind
IsTextRefusal text Outage = ⊥
IsTextRefusal text NoMemory = Unit {0}

-- whether asking the bay counted no fault, by the answer
abbrev pub asked_quietly : {T : Type 0} → Result T HeaderRefusal → Bool
asked_quietly (Ok _) = true
asked_quietly (Err (Fault line kind)) = true
asked_quietly (Err Outage) = false
asked_quietly (Err NoMemory) = true

-- What a call that asks a bay for its header, and for nothing else, leaves of the bay, and how it answers a fault of it. The
-- first four are the ghost members of bays.
pub record OnlyAsks {S T : Type 0} (header : S → Option (List ℕ)) (files : S → Option (List MemFile))
    (admits : S → List ℕ → Type 0) (faults : S → ℕ) (old new : S) (result : Result T HeaderRefusal) : Type 0 where
  pub header_same : header new ≡ header old
  pub files_same : files new ≡ files old
  pub admits_still : StillAdmits admits old new
  pub count : NeverFalls (faults old) (faults new)
  pub once : MeetsOnce (faults old) (faults new)
  pub quiet : OnOk result (faults new ≡ faults old)
  pub answered : AnswersRise result Outage (faults old) (faults new)
