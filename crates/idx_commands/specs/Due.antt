-- When each refusal of `convert` is due, and when there is none, by what is known: of the header text that is asked for, the
-- step, the header text that stands, the committed files and the raw volume. Each speaks where those before it do not.
use Rattle.std.specs.Prelude.{◌≡◌, ◌≢◌, ℕ, List, [], length, Option, None, IsSome, IsSomeAnd, IsErr}
use Rattle.idx_outside.specs.declared.mem_file.MemFile.{MemFile}
use Rattle.idx_header.specs.Header.{HeaderValue, volume_bytes}
use Rattle.idx_header.specs.HeaderOf.{header_of}
use Rattle.idx_header.specs.Revisions.{header_to_write}
use Rattle.idx_gather.specs.Gather.{HasFolder, too_large}
use Rattle.idx_convert.specs.Convert.{Asks, Differs, Reads, Suits}

-- the header text that is asked for is refused
abbrev pub IsBadText : List ℕ → ℕ → Type 0
IsBadText text step = IsErr (header_of text)

-- its header lacks the step
abbrev pub LacksStep : List ℕ → ℕ → Type 0
LacksStep text step = Reads text (λ h. ¬ HasFolder h step)

-- it has the step, which is too large to write
abbrev pub IsTooLarge : List ℕ → ℕ → Type 0
IsTooLarge text step = Reads text (λ h. HasFolder h step × IsSome (too_large h))

-- a header stands whose text is refused
abbrev pub MeetsBadHeader : Option (List ℕ) → List ℕ → ℕ → Type 0
MeetsBadHeader standing text step =
    Asks text step (λ h. IsSomeAnd standing (λ known. (known ≢ []) × IsErr (header_of known)))

-- a header stands that does not agree
abbrev pub MeetsOtherHeader : Option (List ℕ) → List ℕ → ℕ → Type 0
MeetsOtherHeader standing text step = Asks text step (λ h. IsSomeAnd standing (Differs h))

-- no header stands, or it agrees; no revision of the step is left to write, for 256 stand
abbrev pub MeetsStep : Option (List ℕ) → Option (List MemFile) → List ℕ → ℕ → Type 0
MeetsStep standing files text step =
    Asks text step (λ h. IsSomeAnd standing (Suits h) × IsSomeAnd files (λ files. header_to_write h step files ≡ None))

-- no header stands, or it agrees; a revision of the step is left to write; and this holds of the raw volume's bytes
abbrev pub IsFree : Option (List ℕ) → Option (List MemFile) → Option (List ℕ) → (HeaderValue → List ℕ → Type 0) → List ℕ → ℕ → Type 0
IsFree standing files raw P text step =
    Asks text step (λ h. IsSomeAnd standing (Suits h) × IsSomeAnd files (λ files. IsSome (header_to_write h step files))
    × IsSomeAnd raw (P h))

-- the raw volume has another length than the samples take
abbrev pub HasOtherLength : HeaderValue → List ℕ → Type 0
HasOtherLength h bytes = length bytes ≢ volume_bytes h

-- it has the length that they take
abbrev pub HasRightLength : HeaderValue → List ℕ → Type 0
HasRightLength h bytes = length bytes ≡ volume_bytes h
