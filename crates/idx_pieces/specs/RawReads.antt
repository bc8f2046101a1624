-- What reads of a raw volume leave of it, and how much they ask for.
use Rattle.std.specs.Prelude.{◌≡◌, ℕ, ◌≤◌, List, length, Option, IfErr, OnOk, Result}
use Rattle.std.specs.Option.{ForSome}
use Rattle.idx_outside.specs.Cause.{AskedFor, MeetsOnce, NeverFalls, Rose}
use Rattle.idx_header.specs.Header.{HeaderValue, volume_bytes}
use Rattle.idx_pieces.specs.declared.raw_refusal.RawRefusal.{RawRefusal}
use Rattle.idx_pieces.specs.declared.raw_refusal.RawRefusal.TheVariants.{RawFault, NoMemory}

-- a raw volume whose bytes are known has as many as the samples of the box take
abbrev pub HasVolume : HeaderValue → Option (List ℕ) → Type 0
HasVolume h told = ForSome told (λ raw. length raw ≡ volume_bytes h)

-- what each refusal says of the count of faults, before and after
abbrev pub IsRefused : ℕ → ℕ → RawRefusal → Type 0
IsRefused before after (RawFault faults) = (faults ≡ after) × Rose before after
IsRefused before after NoMemory = after ≡ before

-- The bytes of a raw volume and its count of faults, before and after, by the answer: the bytes are the same, the count never
-- falls, stands still at Ok, rises by one at most, and each refusal has its cause.
pub record KeepsRaw {T : Type 0} (told_before told_after : Option (List ℕ)) (before after : ℕ) (result : Result T RawRefusal) : Type 0 where
  pub contents : told_after ≡ told_before
  pub count : NeverFalls before after
  pub once : MeetsOnce before after
  pub quiet : OnOk result (after ≡ before)
  pub refused : IfErr result (IsRefused before after)

-- no more than so many bytes were asked for
pub record AsksAtMost (before after most : ℕ) : Type 0 where
  pub bytes : ℕ
  pub few : bytes ≤ most
  pub asked : AskedFor before after bytes
