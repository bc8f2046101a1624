-- The counts of a list of objects over several calls.
use Rattle.std.specs.Prelude.{ℕ, ◌<◌, List, length, slice_index, slice_set, refl}
use Rattle.std.proofs.Common.{arith, length-set, ◌∙◌}
use Rattle.std.proofs.lemmas.Grind.{common_steps}
use Rattle.idx_outside.specs.Cause.{NeverFalls, Rose}
use Rattle.idx_outside.specs.Counts.{NoneFell, SomeRose}

pub NoneFell-same : (counts : List ℕ) → NoneFell counts counts
NoneFell-same counts = record { same_number = refl; each = λ i. omega arith }

pub NoneFell-then : (a b c : List ℕ) → NoneFell a b → NoneFell b c → NoneFell a c
NoneFell-then a b c first second = record {
  same_number = second.same_number ∙ first.same_number;
  each = λ i. omega (arith, first.each i, second.each i);
}

-- one more call, of the object of this number
pub NoneFell-set : (a b : List ℕ) (number count : ℕ) → NoneFell a b → NeverFalls (slice_index b number) count → NoneFell a (slice_set b number count)
NoneFell-set a b number count first up = record {
  same_number = length-set b number count ∙ first.same_number;
  each = λ i. grind (arith, common_steps, first.each i);
}

pub SomeRose-set : (a b : List ℕ) (number count : ℕ) → NoneFell a b → number < length b → Rose (slice_index b number) count → SomeRose a (slice_set b number count)
SomeRose-set a b number count first within rose = record {
  number = number;
  within = omega (arith, first.same_number);
  rose = grind (arith, common_steps, first.each number);
}

pub SomeRose-behind : (a b c : List ℕ) → NoneFell a b → SomeRose b c → SomeRose a c
SomeRose-behind a b c first h = record {
  number = h.number;
  within = omega (arith, first.same_number, h.within);
  rose = grind (arith, first.each h.number, h.rose);
}

pub SomeRose-before : (a b c : List ℕ) → SomeRose a b → NoneFell b c → SomeRose a c
SomeRose-before a b c h later = record {
  number = h.number;
  within = h.within;
  rose = grind (arith, later.each h.number, h.rose);
}

-- for `#[tactic(auto, using(..))]` on a function that calls the objects of a list one after another
pub ruleset counting = (NoneFell-same, NoneFell-then, NoneFell-set, SomeRose-set, SomeRose-behind, SomeRose-before)
