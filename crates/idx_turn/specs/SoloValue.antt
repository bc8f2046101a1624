-- A value with one owner, as the owner sees it.
use Rattle.std.specs.Prelude.{ℕ, Option, Some, None}
use Rattle.idx_turn.specs.Stands.{Stand}

-- the value, unless it is taken, the value as it was when it was last taken, or made into a Solo, and how many times it was
-- taken, modulo 2^64
pub record SoloValue (S : Type 0) : Type 0 where
  pub kept : Option S
  pub taken : S
  pub holds : ℕ

-- the three together
abbrev pub solo : {S : Type 0} → Option S → S → ℕ → SoloValue S
solo kept taken holds = record { kept = kept; taken = taken; holds = holds }

-- the value that is kept, or else the one that was taken
abbrev pub latest : {S : Type 0} → Option S → S → S
latest (Some kept) taken = kept
latest None taken = taken

-- what is out: nothing while the value is kept
abbrev pub given_unless : {S : Type 0} → Option S → Stand → Option Stand
given_unless (Some kept) was = None
given_unless None was = Some was
