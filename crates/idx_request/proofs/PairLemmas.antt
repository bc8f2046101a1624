-- The pairs of a query string, one after another.
use Rattle.std.proofs.Common.{◌≡◌, ℕ, Bool, true, false, ◌||◌, cond, List, [], ◌∷◌, ◌++◌, map, refl, sym, ap, ◌∙◌, subst, append_assoc, append-nil}
use Rattle.std.specs.Prelude.{bytes_eq}
use Rattle.std.specs.List.{list_any}
use Rattle.std.proofs.lemmas.List.{map-append}
use Rattle.std.proofs.lemmas.List.Folds.{list_any-append}
use Rattle.form_urlencoded.specs.Form.{raw_pairs}
use Rattle.idx_request.specs.declared.noted.Noted.{Noted}
use Rattle.idx_request.specs.declared.noted.Noted.TheVariants as N
use Rattle.idx_request.specs.declared.parameters.Parameters.{Parameters}
use Rattle.idx_request.specs.Pairs.{Pair, decoded, pairs_of, is_bad_pair, named, values}
use Rattle.idx_request.specs.Kept.{IsNoted, AreKept}

-- the pairs of the query up to those that are left
pub record ScansUpTo (query : List ℕ) (left : List Pair) (p : Parameters) : Type 0 where
  pub front : List Pair
  pub split : raw_pairs query ≡ front ++ left
  pub scan : AreKept (map decoded front) p

-- a pair behind others adds its value under its name
values_push : (name : List ℕ) (pairs : List Pair) (pair : Pair)
    → values name (pairs ++ pair ∷ []) ≡ cond (bytes_eq pair.0 name) (values name pairs ++ pair.1 ∷ []) (values name pairs)
values_push name [] pair = by_test (bytes_eq pair.0 name)
  where
    by_test : (t : Bool) → map (λ (q : Pair). q.1) (cond t (pair ∷ []) []) ≡ cond t (pair.1 ∷ []) []
    by_test true = refl
    by_test false = refl
values_push name (p ∷ pairs) pair = by_tests (bytes_eq p.0 name) (bytes_eq pair.0 name) (values_push name pairs pair)
  where
    by_tests : (t u : Bool) → values name (pairs ++ pair ∷ []) ≡ cond u (values name pairs ++ pair.1 ∷ []) (values name pairs)
        → map (λ (q : Pair). q.1) (cond t (p ∷ named name (pairs ++ pair ∷ [])) (named name (pairs ++ pair ∷ [])))
        ≡ cond u (map (λ (q : Pair). q.1) (cond t (p ∷ named name pairs) (named name pairs)) ++ pair.1 ∷ []) (map (λ (q : Pair). q.1) (cond t (p ∷ named name pairs) (named name pairs)))
    by_tests true true later = ap (λ (t : List (List ℕ)). p.1 ∷ t) later
    by_tests true false later = ap (λ (t : List (List ℕ)). p.1 ∷ t) later
    by_tests false true later = later
    by_tests false false later = later

-- what is kept under a name, with one more pair
pub noted_push : (name : List ℕ) (pairs : List Pair) (pair : Pair) (old new : Noted) (here : Bool) → here ≡ bytes_eq pair.0 name
    → IsNoted old (values name pairs) → ((before : List (List ℕ)) → IsNoted old before → IsNoted new (cond here (before ++ pair.1 ∷ []) before))
    → IsNoted new (values name (pairs ++ pair ∷ []))
noted_push name pairs pair old new here is noted step =
    subst (IsNoted new) (sym (values_push name pairs pair ∙ ap (λ (b : Bool). cond b (values name pairs ++ pair.1 ∷ []) (values name pairs)) (sym is))) (step (values name pairs) noted)

pub bad_push : (pairs : List Pair) (pair : Pair) (old here new : Bool) → old ≡ list_any is_bad_pair pairs → here ≡ is_bad_pair pair → new ≡ (old || here)
    → new ≡ list_any is_bad_pair (pairs ++ pair ∷ [])
bad_push pairs pair old here new is_old is_here is_new =
    is_new ∙ (λ i. is_old i || is_here i) ∙ ap (λ b. list_any is_bad_pair pairs || b) (sym (or_false (is_bad_pair pair))) ∙ sym (list_any-append is_bad_pair pairs (pair ∷ []))
  where
    or_false : (b : Bool) → (b || false) ≡ b
    or_false true = refl
    or_false false = refl

-- one step: the pair that was left is among the others
pub scan_push : (query : List ℕ) (left rest : List Pair) (raw pair : Pair) (p q : Parameters) → (s : ScansUpTo query left p) → left ≡ raw ∷ rest → pair ≡ decoded raw
    → ((pairs : List Pair) → AreKept pairs p → AreKept (pairs ++ pair ∷ []) q) → ScansUpTo query rest q
scan_push query left rest raw pair p q s is same step = record {
  front = s.front ++ raw ∷ [];
  split = s.split ∙ ap (λ (t : List Pair). s.front ++ t) is ∙ sym (append_assoc s.front (raw ∷ []) rest);
  scan = subst (λ (t : List Pair). AreKept t q) (ap (λ (x : Pair). map decoded s.front ++ x ∷ []) same ∙ sym (map-append decoded s.front (raw ∷ []))) (step (map decoded s.front) s.scan);
}

pub scan_none : (query : List ℕ) (p : Parameters) → AreKept [] p → ScansUpTo query (raw_pairs query) p
scan_none query p s = record { front = []; split = refl; scan = s }

-- before the first pair
pub scan_start : (query : List ℕ) (p : Parameters) → p ≡ record { bad = false; action = N.Missing; dataset = N.Missing; time = N.Missing; field = N.Missing; region = N.Missing; lo = N.Missing; hi = N.Missing; finest = N.Missing; compression = N.Missing } → ScansUpTo query (raw_pairs query) p
scan_start query p e = subst (ScansUpTo query (raw_pairs query)) (sym e) (scan_none query _ (record { bad = refl; action = refl; dataset = refl; time = refl; field = refl; region = refl; lo = refl; hi = refl; finest = refl; compression = refl }))

pub scan_all : (query : List ℕ) (left : List Pair) (p : Parameters) → ScansUpTo query left p → left ≡ [] → AreKept (pairs_of query) p
scan_all query left p s none =
    subst (λ (t : List Pair). AreKept (map decoded t) p) (sym (s.split ∙ ap (λ (t : List Pair). s.front ++ t) none ∙ append-nil s.front)) s.scan
