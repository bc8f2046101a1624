-- What is kept of the parameters while a query is read.
use Rattle.std.specs.Prelude.{◌≡◌, ℕ, List, [], ◌∷◌, codes, Option, Some, None, Result, Ok, Err}
use Rattle.std.specs.List.{list_any}
use Rattle.idx_request.specs.declared.noted.Noted.{Noted}
use Rattle.idx_request.specs.declared.noted.Noted.TheVariants as N
use Rattle.idx_request.specs.declared.parameters.Parameters.{Parameters}
use Rattle.idx_request.specs.declared.target_fault.TargetFault.{TargetFault}
use Rattle.idx_request.specs.declared.target_fault.TargetFault.TheVariants as F
use Rattle.idx_header.specs.Header.{HeaderValue}
use Rattle.idx_plan.specs.declared.ask.Ask.{Ask}
use Rattle.idx_request.specs.Faults.{IsReadBy, step_fault}
use Rattle.idx_request.specs.Pairs.{Pair, is_bad_pair, text_of, values}

-- what is kept of the values of one parameter
abbrev pub IsNoted : Noted → List (List ℕ) → Type 0
IsNoted N.Missing values = values ≡ []
IsNoted (N.Once value) values = values ≡ text_of value.now ∷ []
IsNoted N.Twice values = (a : List ℕ) × (b : List ℕ) × (more : List (List ℕ)) × (values ≡ a ∷ b ∷ more)

-- what is kept of these pairs
pub record AreKept (pairs : List Pair) (p : Parameters) : Type 0 where
  pub bad : p.bad ≡ list_any is_bad_pair pairs
  pub action : IsNoted p.action (values (codes "action") pairs)
  pub dataset : IsNoted p.dataset (values (codes "dataset") pairs)
  pub time : IsNoted p.time (values (codes "time") pairs)
  pub field : IsNoted p.field (values (codes "field") pairs)
  pub region : IsNoted p.region (values (codes "box") pairs)
  pub lo : IsNoted p.lo (values (codes "fromh") pairs)
  pub hi : IsNoted p.hi (values (codes "toh") pairs)
  pub finest : IsNoted p.finest (values (codes "maxh") pairs)
  pub compression : IsNoted p.compression (values (codes "compression") pairs)

-- the answer is this first fault, and there is none where it is Ok, but for want of memory
abbrev pub IsAnswer : Option TargetFault → Result (Unit {0}) TargetFault → Type 0
IsAnswer first (Ok _) = first ≡ None
IsAnswer first (Err F.NoMemory) = Unit {0}
IsAnswer first (Err fault) = first ≡ Some fault

-- The answer gives what P holds of; or it is this fault, and then this holds; or there was no memory.
abbrev pub Gives : {T : Type 0} → (T → Type 0) → TargetFault → Type 0 → Result T TargetFault → Type 0
Gives P fault Q (Ok value) = P value
Gives P fault Q (Err F.NoMemory) = Unit {0}
Gives P fault Q (Err other) = (other ≡ fault) × Q

-- what the field, the step, the box and the levels come to
abbrev pub IsAskRead : HeaderValue → List Pair → Result Ask TargetFault → Type 0
IsAskRead h pairs result = IsReadBy h pairs result (step_fault h pairs)
