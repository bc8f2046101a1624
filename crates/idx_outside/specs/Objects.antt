-- The objects of a list, by their numbers in it, from 0. `contents` and `faults` are ghost members of their trait.
use Rattle.std.specs.Prelude.{◌≡◌, ℕ, ◌+◌, List, Option, None, map, take, drop, slice_index, slice_index_or}
use Rattle.idx_outside.specs.Cause.{NeverFalls}

-- what the object of this number holds, where it is known
abbrev pub contents_at : {S : Type 0} → (S → Option (List ℕ)) → List S → ℕ → Option (List ℕ)
contents_at contents objects number = slice_index_or (map contents objects) number None

-- the count of faults of the object of this number
abbrev pub faults_at : {S : Type 0} → (S → ℕ) → List S → ℕ → ℕ
faults_at faults objects number = slice_index (map faults objects) number

-- each object holds what it held
abbrev pub SameContents : {S : Type 0} → (S → Option (List ℕ)) → List S → List S → Type 0
SameContents contents old new = map contents new ≡ map contents old

-- no object other than that of this number was touched
pub record OthersUntouched {S : Type 0} (old new : List S) (number : ℕ) : Type 0 where
  pub before : take number new ≡ take number old
  pub behind : drop (number + 1) new ≡ drop (number + 1) old

-- No object holds anything else than before, none other than that of this number was touched, and its count never falls.
pub record UsesOnly {S : Type 0} (contents : S → Option (List ℕ)) (faults : S → ℕ) (number : ℕ) (old new : List S) : Type 0 where
  pub same : SameContents contents old new
  pub others : OthersUntouched old new number
  pub count : NeverFalls (faults_at faults old number) (faults_at faults new number)
