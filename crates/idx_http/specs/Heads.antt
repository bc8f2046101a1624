-- What stands next in an input: the definition speaks of the whole rest of the input and not of how it was cut.
use Rattle.std.specs.Prelude.{◌≡◌, ◌⊎◌, ℕ, ◌<◌, ◌≤◌, List, [], length, take}
use Rattle.httparse.specs.Grammar.{RequestHead, ReadsRequest, HasNoRequest, NeverHasRequest, MayBecomeRequest}

-- a head has at most so many bytes
abbrev pub head_limit : ℕ
head_limit = 8192

-- a head has at most so many fields
abbrev pub field_limit : ℕ
field_limit = 64

-- the bytes among which the next head is looked for
unfoldable pub window : List ℕ → List ℕ
window s = take head_limit s

-- what can stand next
pub data Next : Type 0 where
  whole : RequestHead → Next
  bad too_big ended : Next
  cut : ℕ → Next

-- the window begins with this head
pub record Begins (s : List ℕ) (h : RequestHead) : Type 0 where
  pub rest : List ℕ
  pub reads : ReadsRequest (window s) h rest

-- the window begins with no head, and no bytes can follow that make it begin with one
pub record IsHopeless (s : List ℕ) : Type 0 where
  pub none : HasNoRequest (window s)
  pub never : NeverHasRequest (window s)

-- the window begins with no head, and some bytes can follow that make it one, or it ends inside the target
pub record IsFront (s : List ℕ) : Type 0 where
  pub none : HasNoRequest (window s)
  pub goes_on : MayBecomeRequest (window s)

-- this can stand next
abbrev pub NextHead : List ℕ → Next → Type 0
NextHead s (whole h) = Begins s h × (length h.fields ≤ field_limit)
NextHead s bad = IsHopeless s
NextHead s too_big =
    ((h : RequestHead) × Begins s h × (field_limit < length h.fields)) ⊎ (IsFront s × (head_limit ≤ length s))
NextHead s ended = s ≡ []
NextHead s (cut kept) = IsFront s × (0 < length s) × (length s < head_limit) × (kept ≡ length s)
