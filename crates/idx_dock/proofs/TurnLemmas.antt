-- The run that has the sample at an address is the next one.
use Rattle.std.proofs.Common.{◌≡◌, ℕ, zero, suc, ◌<◌, ◌≤◌, true, List, [], ◌∷◌, length, get_or, refl, ap, subst, arith, inl, inr, Option, Some, None}
use Rattle.std.specs.Prelude.{◌⊎◌}
use Rattle.std.specs.List.{AllByRecursion}
use Rattle.std.proofs.lemmas.Bool.{cases_lt}
use Rattle.idx_header.specs.Header.{HeaderValue}
use Rattle.idx_pieces.specs.declared.run.Run.{Run}
use Rattle.idx_dock.specs.declared.awaited.Awaited.{Awaited}
use Rattle.idx_dock.specs.Content.{has_sample, runs_in}
use Rattle.idx_dock.specs.Next.{AreApart, BeginsBy, IsNext, IsOneOf, is_left, runs_of}
use Rattle.idx_dock.proofs.NextLemmas.{IsOneOf-back, IsOneOf-front, left_is}
use Rattle.idx_dock.proofs.WriteLemmas.{has_from}

-- what holds of each of some runs
all_members : (P : Run → Type 0) (runs : List Run) → ((q : Run) → IsOneOf runs q → P q) → AllByRecursion P runs
all_members P [] each = tt
all_members P (r ∷ runs) each = (each r (inl refl), all_members P runs (λ q one. each q (inr one)))

-- a run of a piece is one of all
one_of_piece : (awaited : List Awaited) (i : ℕ) (d : Awaited) (r : Run) → i < length awaited → IsOneOf (runs_of (get_or awaited i d)) r → IsOneOf (runs_in awaited) r
one_of_piece [] i d r within one = absurd (omega arith)
one_of_piece (a ∷ awaited) zero d r within one = IsOneOf-front (runs_of a) (runs_in awaited) r one
one_of_piece (a ∷ awaited) (suc i) d r within one = IsOneOf-back (runs_of a) (runs_in awaited) r (one_of_piece awaited i d r (omega arith) one)

-- a run of a piece that is left and begins at the address or before it
pub next_here : (h : HeaderValue) (field from : ℕ) (awaited : List Awaited) (i : ℕ) (item : Awaited) (o : Option Run) → AreApart h (runs_in awaited) → i < length awaited → item ≡ get_or awaited i item →
    IsNext h field from (runs_of item) o → BeginsBy from o → IsNext h field from (runs_in awaited) o
next_here h field from awaited i item None apart within is next by = absurd by
next_here h field from awaited i item (Some r) apart within is next by =
    let among : IsOneOf (runs_in awaited) r = one_of_piece awaited i item r within (subst (λ a. IsOneOf (runs_of a) r) is next.1) in
    (next.0, among, all_members (λ q. is_left h field from q ≡ true → r.first ≤ q.first) (runs_in awaited) (λ q one left. in_order q one left among (cases_lt q.first r.first)))
  where
    has : (q : Run) → is_left h field from q ≡ true → q.first ≤ from → has_sample h field from q ≡ true
    has q left begins = let is = left_is h field from q left in has_from h field from q is.0 begins is.1

    in_order : (q : Run) → IsOneOf (runs_in awaited) q → is_left h field from q ≡ true → IsOneOf (runs_in awaited) r → (q.first < r.first) ⊎ (r.first ≤ q.first) → r.first ≤ q.first
    in_order q one left among (inr le) = le
    in_order q one left among (inl less) =
        let same : q ≡ r = apart field from q r one among (has q left (omega (arith, less, by))) (has r next.0 by) in
        omega (arith, less, ap (λ (x : Run). x.first) same)
