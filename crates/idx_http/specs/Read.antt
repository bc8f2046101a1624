-- What `read_head` answers.
use Rattle.std.specs.Prelude.{◌≡◌, ℕ, ◌<◌, ◌≤◌, List, ◌++◌, length, drop, All, Option, Some, None, ⊤}
use Rattle.httparse.specs.Grammar.{RequestHead, print_request, ReadsRequest, HasNoRequest, NeverHasRequest, MayBecomeRequest}
use Rattle.httparse.specs.Spans.{span_bytes, IsWithin}
use Rattle.idx_http.specs.declared.look.Found.{Found}
use Rattle.idx_http.specs.declared.look.Look.{Look}
use Rattle.idx_http.specs.declared.look.Look.TheVariants as L
use Rattle.idx_http.specs.declared.head.HeadRead.{HeadRead}
use Rattle.idx_http.specs.declared.head.HeadRead.TheVariants as R
use Rattle.idx_outside.specs.Input.{Reading}
use Rattle.idx_http.specs.Heads.{head_limit, IsFront, NextHead, whole, bad, too_big, ended, cut}
use Rattle.idx_http.specs.Values.{values_of}

-- what was found is the head h, at the front of the buffer
pub record IsFound (buffer : List ℕ) (found : Found) (h : RequestHead) : Type 0 where
  pub reads : ReadsRequest buffer h (drop found.len buffer)
  pub len : found.len ≡ length (print_request h)
  pub within : found.len ≤ length buffer
  pub fields : found.fields ≡ length h.fields
  pub get : found.get ≡ (values_of h).get
  pub body : found.body ≡ (values_of h).body
  pub close : found.close ≡ (values_of h).close
  pub target : span_bytes buffer found.target ≡ h.target
  pub target_within : IsWithin found.len found.target

-- what stands at the front of a buffer
abbrev pub IsLook : List ℕ → Look → Type 0
IsLook buffer (L.Whole found) = (h : RequestHead) × IsFound buffer found h
IsLook buffer L.Front = HasNoRequest buffer × MayBecomeRequest buffer
IsLook buffer L.Bad = HasNoRequest buffer × NeverHasRequest buffer

-- The answer to an input s, of which `rest` is left. A head is taken off the input, and nothing else is. Only a head takes
-- memory.
abbrev pub IsHeadRead : List ℕ → Option (List ℕ) → HeadRead → Type 0
IsHeadRead s rest (R.Head head) =
    (h : RequestHead) × NextHead s (whole h) × (head ≡ values_of h)
    × (rest ≡ Some (drop (length (print_request h)) s))
IsHeadRead s rest R.Ended = NextHead s ended × (rest ≡ Some s)
IsHeadRead s rest (R.Cut kept) = NextHead s (cut kept) × (rest ≡ Some s)
IsHeadRead s rest R.Bad = NextHead s bad × (rest ≡ Some s)
IsHeadRead s rest R.TooBig = NextHead s too_big × (rest ≡ Some s)
IsHeadRead s rest (R.Fault faults) = rest ≡ Some s
IsHeadRead s rest R.NoMemory = ((h : RequestHead) × NextHead s (whole h)) × (rest ≡ Some s)

-- the answer is a fault with this count
abbrev pub OnFault : HeadRead → (ℕ → Type 0) → Type 0
OnFault (R.Head head) P = ⊤
OnFault R.Ended P = ⊤
OnFault (R.Cut kept) P = ⊤
OnFault R.Bad P = ⊤
OnFault R.TooBig P = ⊤
OnFault (R.Fault faults) P = P faults
OnFault R.NoMemory P = ⊤

-- the answer is no fault
abbrev pub UnlessFault : HeadRead → Type 0 → Type 0
UnlessFault (R.Head head) P = P
UnlessFault R.Ended P = P
UnlessFault (R.Cut kept) P = P
UnlessFault R.Bad P = P
UnlessFault R.TooBig P = P
UnlessFault (R.Fault faults) P = ⊤
UnlessFault R.NoMemory P = P

-- what was taken off a list of bytes, at whose front a head stands, and what is left
abbrev pub IsTaken : List ℕ → List ℕ → HeadRead → Type 0
IsTaken kept rest (R.Head head) =
    (h : RequestHead) × NextHead kept (whole h) × (head ≡ values_of h)
    × (rest ≡ drop (length (print_request h)) kept) × (length (print_request h) ≤ length kept)
IsTaken kept rest R.Ended = ⊥
IsTaken kept rest (R.Cut n) = ⊥
IsTaken kept rest R.Bad = ⊥
IsTaken kept rest R.TooBig = NextHead kept too_big × (rest ≡ kept)
IsTaken kept rest (R.Fault faults) = ⊥
IsTaken kept rest R.NoMemory = ((h : RequestHead) × NextHead kept (whole h)) × (rest ≡ kept)

-- what is kept only begins a head, and more bytes may still belong to it
pub record IsWanting (kept : List ℕ) : Type 0 where
  pub front : IsFront kept
  pub short : length kept < head_limit

-- the reading was made when what had come of the input s only began a head, and when this had been written
pub record FindsFront (s written : List ℕ) (reading : Reading) : Type 0 where
  pub kept : List ℕ
  pub split : s ≡ kept ++ reading.coming
  pub wanting : IsWanting kept
  pub same : reading.written ≡ written

-- The link was read only while what had come of the input only began a head, where the input, what was written and the
-- readings are known.
abbrev pub ReadsFronts : Option (List ℕ) → Option (List ℕ) → Option (List Reading) → Option (List Reading) → Type 0
ReadsFronts (Some s) (Some written) (Some old) new =
    (more : List Reading) × (new ≡ Some (old ++ more)) × All (FindsFront s written) more
ReadsFronts (Some s) (Some written) None new = ⊤
ReadsFronts (Some s) None old new = ⊤
ReadsFronts None written old new = ⊤
