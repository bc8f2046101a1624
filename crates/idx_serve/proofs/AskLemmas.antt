-- A question that was read is one of the dataset.
use Rattle.std.proofs.Common.{inl, inr, ◌≡◌, ℕ, ◌<◌, ◌≤◌, List, [], ◌∷◌, length, codes, Option, Some, None, Ok, arith}
use Rattle.idx_header.specs.Header.{HeaderValue}
use Rattle.idx_plan.specs.declared.ask.Ask.{Ask}
use Rattle.idx_request.specs.Asked.{IsAsked, IsBoxAsked, IsFieldAsked}
use Rattle.idx_request.specs.Faults.{IsRead, IsReadBy, early_fault}
use Rattle.idx_request.specs.Pairs.{Pair, values, pairs_of}
use Rattle.idx_request.specs.declared.target_fault.TargetFault.{TargetFault}
use Rattle.form_urlencoded.specs.Form.{split_once}

asked_by : (h : HeaderValue) (pairs : List Pair) (ask : Ask) (early : Option TargetFault) → IsReadBy h pairs (Ok ask) early → IsAsked h pairs ask
asked_by h pairs ask (Some fault) (inl same) = absurd (cc)
asked_by h pairs ask (Some fault) (inr same) = absurd (cc)
asked_by h pairs ask None asked = asked

pub asked_of : (h : HeaderValue) (name target : List ℕ) (ask : Ask) → IsRead h name target (Ok ask) → IsAsked h (pairs_of (split_once 63 target).1) ask
asked_of h name target ask read = asked_by h (pairs_of (split_once 63 target).1) ask (early_fault h name target) read

within : (h : HeaderValue) (vs : List (List ℕ)) (i : ℕ) → 1 ≤ length h.fields → IsFieldAsked h vs i → i < length h.fields
within h [] i some asked = omega (arith, asked)
within h (value ∷ more) i some asked = asked.0

as_many : (h : HeaderValue) (vs : List (List ℕ)) (r : List (ℕ × ℕ)) → IsBoxAsked h vs r → length r ≡ length h.box
as_many h [] r asked = absurd asked
as_many h (value ∷ more) r asked = asked.1

-- its field is one of the dataset's
pub field_within : (h : HeaderValue) (name target : List ℕ) (ask : Ask) → 1 ≤ length h.fields → IsRead h name target (Ok ask) → ask.field < length h.fields
field_within h name target ask some read =
    within h (values (codes "field") (pairs_of (split_once 63 target).1)) ask.field some (asked_of h name target ask read).field

-- its region has the dataset's axes
pub same_axes : (h : HeaderValue) (name target : List ℕ) (ask : Ask) → IsRead h name target (Ok ask) → length ask.region ≡ length h.box
same_axes h name target ask read = as_many h (values (codes "box") (pairs_of (split_once 63 target).1)) ask.region (asked_of h name target ask read).region
