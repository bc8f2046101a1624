-- The next run of a field: which of the delivered runs is written next, from an address on.
use Rattle.std.specs.Prelude.{◌≡◌, ℕ, ◌+◌, ◌<◌, ◌≤◌, ◌==◌, ◌&&◌, ◌⊎◌, true, false, nat_lt, if◌then◌else◌, Bool, List, [], ◌∷◌, length, slice_index, slice_index_or, Option, Some, None, All}
use Rattle.std.specs.List.{AllByRecursion}
use Rattle.std.specs.Option.{unwrap_or}
use Rattle.idx_header.specs.Header.{HeaderValue, IsHeader, block_count}
use Rattle.idx_pieces.specs.Runs.{IsRun, run_length}
use Rattle.idx_pieces.specs.declared.run.Run.{Run}
use Rattle.idx_dock.specs.Content.{has_sample, runs_in}
use Rattle.idx_dock.specs.declared.awaited.Awaited.{Awaited}

-- the delivered runs of a piece
abbrev pub runs_of : Awaited → List Run
runs_of a = unwrap_or a.runs []

abbrev pub end_of : HeaderValue → Run → ℕ
end_of h run = run.first + run_length h run

-- the run has a sample of the field at the address or behind it
abbrev pub is_left : HeaderValue → ℕ → ℕ → Run → Bool
is_left h field from run = (run.field == field) && nat_lt from (end_of h run)

-- the run is one of these
abbrev pub IsOneOf : List Run → Run → Type 0
IsOneOf [] run = ⊥
IsOneOf (r ∷ runs) run = (r ≡ run) ⊎ IsOneOf runs run

-- the runs of a field rise by address
abbrev pub RiseIn : HeaderValue → ℕ → List Run → Type 0
RiseIn h field [] = Unit {0}
RiseIn h field (r ∷ runs) =
    (r.field ≡ field → AllByRecursion (λ q. q.field ≡ field → end_of h r ≤ q.first) runs) × RiseIn h field runs

-- no two of the runs have a sample of one field and address
abbrev pub AreApart : HeaderValue → List Run → Type 0
AreApart h runs =
    (field address : ℕ) (q r : Run) → IsOneOf runs q → IsOneOf runs r → has_sample h field address q ≡ true →
    has_sample h field address r ≡ true → q ≡ r

-- the least of the runs that have a sample of the field at the address or behind it, by their first addresses
abbrev pub IsNext : HeaderValue → ℕ → ℕ → List Run → Option Run → Type 0
IsNext h field from runs None = AllByRecursion (λ q. is_left h field from q ≡ false) runs
IsNext h field from runs (Some r) =
    (is_left h field from r ≡ true) × IsOneOf runs r
    × AllByRecursion (λ q. is_left h field from q ≡ true → r.first ≤ q.first) runs

-- there is a run, and it begins at the address or before it
abbrev pub BeginsBy : ℕ → Option Run → Type 0
BeginsBy from None = ⊥
BeginsBy from (Some r) = r.first ≤ from

-- that of two runs which begins first
abbrev pub earlier_of : Option Run → Option Run → Option Run
earlier_of None other = other
earlier_of (Some r) None = Some r
earlier_of (Some r) (Some q) = if nat_lt q.first r.first then Some q else Some r

-- the first so many of the runs have no sample of the field at the address or behind it
abbrev pub IsPassed : HeaderValue → ℕ → ℕ → List Run → ℕ → Type 0
IsPassed h field from runs count = (k : ℕ) (d : Run) → k < count → k < length runs → is_left h field from (slice_index_or runs k d) ≡ false

-- so it is of the runs of each piece, with a count for each
pub record ArePassed (h : HeaderValue) (field from : ℕ) (awaited : List Awaited) (counts : List ℕ) : Type 0 where
  pub many : length counts ≡ length awaited
  pub each : (i : ℕ) (d : Awaited) → i < length awaited →
      IsPassed h field from (runs_of (slice_index_or awaited i d)) (slice_index counts i)

-- what can be written: runs of a file of a dataset, of which no two have a sample of one field and address, those of each
-- piece rising
pub record AreWritable (h : HeaderValue) (file : ℕ) (awaited : List Awaited) : Type 0 where
  pub header : IsHeader h
  pub exists : file < block_count h
  pub runs : All (λ a. All (IsRun h file) (runs_of a)) awaited
  pub rising : All (λ a. (field : ℕ) → RiseIn h field (runs_of a)) awaited
  pub apart : AreApart h (runs_in awaited)
