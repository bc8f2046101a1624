-- Calls of the objects of a list, one after another.
use Rattle.std.specs.Prelude.{◌≡◌, ℕ, ◌<◌, List, Option, map, length, slice_index, slice_index_or, slice_set}
use Rattle.std.proofs.Common.{sym, ap, subst, ◌∙◌}
use Rattle.std.proofs.Math.Seq.{map-set_same}
use Rattle.std.proofs.lemmas.List.{map-set, get_or-map, length-map}
use Rattle.std.proofs.lemmas.Option.{slice_get-get_or}
use Rattle.idx_outside.specs.Cause.{NeverFalls, Rose}
use Rattle.idx_outside.specs.Counts.{NoneFell, SomeRose}
use Rattle.idx_outside.specs.Objects.{SameContents}
use Rattle.idx_outside.proofs.CountsLemmas.{NoneFell-set, SomeRose-set, counting}

module _ {S : Type 0} (contents : S → Option (List ℕ)) where
  -- A call of the object `was` of this number made it `is`, and left what it holds.
  pub SameContents-call : (old now : List S) (number : ℕ) (was is : S) → SameContents contents old now → was ≡ slice_index_or now number was → contents is ≡ contents was → SameContents contents old (slice_set now number is)
  SameContents-call old now number was is same at kept = map-set_same contents now number is was (kept ∙ ap contents at) ∙ same

module _ {S : Type 0} (faults : S → ℕ) where
  count_of : (now : List S) (number : ℕ) (is : S) → number < length now → faults (slice_index_or now number is) ≡ slice_index (map faults now) number
  count_of now number is within = sym (get_or-map faults now number is 0 within)

  -- It never lets its count fall.
  pub NoneFell-call : (counts : List ℕ) (now : List S) (number : ℕ) (is : S) → NoneFell counts (map faults now) → number < length now → NeverFalls (faults (slice_index_or now number is)) (faults is) → NoneFell counts (map faults (slice_set now number is))
  NoneFell-call counts now number is first within up =
      subst (NoneFell counts) (sym (map-set faults now number is)) (NoneFell-set counts (map faults now) number (faults is) first (subst (λ n. NeverFalls n (faults is)) (count_of now number is within) up))

  -- It let its count rise.
  pub SomeRose-call : (counts : List ℕ) (now : List S) (number : ℕ) (is : S) → NoneFell counts (map faults now) → number < length now → Rose (faults (slice_index_or now number is)) (faults is) → SomeRose counts (map faults (slice_set now number is))
  SomeRose-call counts now number is first within up =
      subst (SomeRose counts) (sym (map-set faults now number is)) (SomeRose-set counts (map faults now) number (faults is) first (simp length-map within) (subst (λ n. Rose n (faults is)) (count_of now number is within) up))

-- for `#[tactic(auto, using(..))]` on a function that calls the objects of a list one after another
pub ruleset calls = (SameContents-call, NoneFell-call, SomeRose-call, counting, slice_get-get_or, length-map)
