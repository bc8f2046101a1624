-- What stands at the addresses of a range: zeros up to the next run, and then its samples.
use Rattle.std.proofs.Common.{◌≡◌, ℕ, zero, suc, ◌+◌, ◌-◌, ◌*◌, ◌<◌, ◌≤◌, Bool, true, false, cond, List, [], ◌∷◌, ◌++◌, length, take, drop, refl, sym, ap, ◌∙◌, arith, inl, inr, Option, Some, None, ltb-true, lt-ltb, eqb-true, eq-eqb, leb-true, le-leb}
use Rattle.std.specs.Prelude.{◌&&◌, ◌==◌, nat_lt, nat_le, find, replicate, slice_range}
use Rattle.std.specs.List.{AllByRecursion, flat_map, range_with_len}
use Rattle.std.specs.Option.{option_map_or}
use Rattle.std.proofs.Math.Nat.{mul-le-mul_left}
use Rattle.std.proofs.Math.Seq.{take-add, drop-drop}
use Rattle.std.proofs.lemmas.List.{length-drop, length-take-le, replicate-append-replicate}
use Rattle.std.proofs.lemmas.Grind.{flat_map-append}
use Rattle.idx_layout.proofs.ListLemmas.{range-split}
use Rattle.idx_header.specs.Header.{HeaderValue, sample_bytes_of}
use Rattle.idx_pieces.specs.declared.run.Run.{Run}
use Rattle.idx_dock.specs.Content.{has_sample, run_sample, sample_among}
use Rattle.idx_dock.specs.Next.{AreApart, IsNext, IsOneOf, end_of, is_left}
use Rattle.idx_dock.proofs.NextLemmas.{AllByRecursion-weaker, both-true, left_is}

-- two functions that agree on a range give one list
pub flat_map-range : (f g : ℕ → List ℕ) (a n : ℕ) → ((k : ℕ) → a ≤ k → k < a + n → f k ≡ g k) → flat_map f (range_with_len a n) ≡ flat_map g (range_with_len a n)
flat_map-range f g a zero same = refl
flat_map-range f g a (suc n) same =
    ap (λ x. x ++ flat_map f (range_with_len (a + 1) n)) (same a (omega arith) (omega arith))
    ∙ ap (λ x. g a ++ x) (flat_map-range f g (a + 1) n (λ k from to. same k (omega arith) (omega arith)))

zeros-range : (size a n : ℕ) → flat_map {X = ℕ} {A = ℕ} (λ k. replicate size 0) (range_with_len a n) ≡ replicate (size * n) 0
zeros-range size a zero = let none : size * 0 ≡ 0 = omega arith in sym (ap (λ m. replicate m 0) none)
zeros-range size a (suc n) =
    let more : size + size * n ≡ size * suc n = omega arith in
    ap (λ x. replicate size 0 ++ x) (zeros-range size (a + 1) n) ∙ replicate-append-replicate size (size * n) 0 ∙ ap (λ m. replicate m 0) more

-- what a run with a sample is
pub has_is : (h : HeaderValue) (field address : ℕ) (q : Run) → has_sample h field address q ≡ true → (q.field ≡ field) × (q.first ≤ address) × (address < end_of h q)
has_is h field address q has =
    let one = both-true (q.field == field) (nat_le q.first address && nat_lt address (end_of h q)) has in
    let two = both-true (nat_le q.first address) (nat_lt address (end_of h q)) one.1 in
    (eqb-true q.field field one.0, leb-true q.first address two.0, ltb-true address (end_of h q) two.1)

pub has_from : (h : HeaderValue) (field address : ℕ) (q : Run) → q.field ≡ field → q.first ≤ address → address < end_of h q → has_sample h field address q ≡ true
has_from h field address q same from to =
    ap (λ b. b && (nat_le q.first address && nat_lt address (end_of h q))) (eq-eqb q.field field same)
    ∙ ap (λ b. b && nat_lt address (end_of h q)) (le-leb q.first address from) ∙ lt-ltb address (end_of h q) to

pub left_from : (h : HeaderValue) (field from : ℕ) (q : Run) → q.field ≡ field → from < end_of h q → is_left h field from q ≡ true
left_from h field from q same to =
    ap (λ b. b && nat_lt from (end_of h q)) (eq-eqb q.field field same) ∙ lt-ltb from (end_of h q) to

no_sample : (h : HeaderValue) (field from address : ℕ) (q : Run) → from ≤ address → (is_left h field from q ≡ true → address < q.first) → has_sample h field address q ≡ false
no_sample h field from address q le above = by_test (has_sample h field address q) refl
  where
    by_test : (b : Bool) → has_sample h field address q ≡ b → has_sample h field address q ≡ false
    by_test true has =
        let is = has_is h field address q has in
        let past : address < q.first = above (left_from h field from q is.0 (omega (arith, is.2))) in
        absurd (omega (arith, is.1))
    by_test false has = has

find-none : (p : Run → Bool) (runs : List Run) → AllByRecursion (λ q. p q ≡ false) runs → find p runs ≡ None
find-none p [] all = refl
find-none p (q ∷ runs) all = ap (λ b. cond b (Some q) (find p runs)) all.0 ∙ find-none p runs all.1

-- before the next run no run has a sample
sample_gap : (h : HeaderValue) (field from address : ℕ) (runs : List Run) (o : Option Run) → IsNext h field from runs o → from ≤ address → ((r : Run) → o ≡ Some r → address < r.first) →
    sample_among h runs field address ≡ replicate (sample_bytes_of h field) 0
sample_gap h field from address runs o next le before =
    ap (λ found. option_map_or (run_sample h address) found (replicate (sample_bytes_of h field) 0)) (find-none (has_sample h field address) runs (by_next o next before))
  where
    by_next : (o : Option Run) → IsNext h field from runs o → ((r : Run) → o ≡ Some r → address < r.first) → AllByRecursion (λ q. has_sample h field address q ≡ false) runs
    by_next None next before =
        AllByRecursion-weaker (λ q. is_left h field from q ≡ false) (λ q. has_sample h field address q ≡ false)
        (λ q gone. no_sample h field from address q le (λ yes. let wrong : true ≡ false = sym yes ∙ gone in cc)) runs next
    by_next (Some r) next before =
        let here : address < r.first = before r refl in
        AllByRecursion-weaker (λ q. is_left h field from q ≡ true → r.first ≤ q.first) (λ q. has_sample h field address q ≡ false)
        (λ q above. no_sample h field from address q le (λ yes. let more : r.first ≤ q.first = above yes in omega arith)) runs next.2

pub samples_gap : (h : HeaderValue) (field from to : ℕ) (runs : List Run) (o : Option Run) → IsNext h field from runs o → ((r : Run) → o ≡ Some r → to ≤ r.first) →
    flat_map (sample_among h runs field) (range_with_len from (to - from)) ≡ replicate (sample_bytes_of h field * (to - from)) 0
samples_gap h field from to runs o next before =
    flat_map-range (sample_among h runs field) (λ k. replicate (sample_bytes_of h field) 0) from (to - from)
    (λ k above below. sample_gap h field from k runs o next above (λ r is. let past : to ≤ r.first = before r is in omega arith))
    ∙ zeros-range (sample_bytes_of h field) from (to - from)

-- where no run is left, no sample stands
pub samples_none : (h : HeaderValue) (field from to : ℕ) (runs : List Run) → IsNext h field from runs None →
    flat_map (sample_among h runs field) (range_with_len from (to - from)) ≡ replicate (sample_bytes_of h field * (to - from)) 0
samples_none h field from to runs next = samples_gap h field from to runs None next never
  where
    never : (r : Run) → None ≡ Some r → to ≤ r.first
    never r same = cc

find-only : (p : Run → Bool) (runs : List Run) (r : Run) → ((q : Run) → IsOneOf runs q → p q ≡ true → q ≡ r) → IsOneOf runs r → p r ≡ true → find p runs ≡ Some r
find-only p [] r only here has = absurd here
find-only p (q ∷ runs) r only here has = by_test (λ more. find-only p runs r (λ x one. only x (inr one)) more has) (p q) refl here
  where
    by_test : (IsOneOf runs r → find p runs ≡ Some r) → (b : Bool) → p q ≡ b → IsOneOf (q ∷ runs) r → cond b (Some q) (find p runs) ≡ Some r
    by_test rest true is here = ap Some (only q (inl refl) is)
    by_test rest false is (inl same) = let wrong : true ≡ false = sym has ∙ sym (ap p same) ∙ is in cc
    by_test rest false is (inr more) = rest more

-- where a run has a sample, that one stands
pub sample_run : (h : HeaderValue) (field address : ℕ) (runs : List Run) (r : Run) → AreApart h runs → IsOneOf runs r → has_sample h field address r ≡ true →
    sample_among h runs field address ≡ run_sample h address r
sample_run h field address runs r apart here has =
    ap (λ found. option_map_or (run_sample h address) found (replicate (sample_bytes_of h field) 0))
    (find-only (has_sample h field address) runs r (λ q one is. apart field address q r one here is has) here has)

run_range : (h : HeaderValue) (r : Run) (from n : ℕ) → r.first ≤ from →
    flat_map (λ address. run_sample h address r) (range_with_len from n) ≡ take (sample_bytes_of h r.field * n) (drop (sample_bytes_of h r.field * (from - r.first)) r.bytes)
run_range h r from zero le =
    let none : sample_bytes_of h r.field * 0 ≡ 0 = omega arith in
    sym (ap (λ m. take m (drop (sample_bytes_of h r.field * (from - r.first)) r.bytes)) none)
run_range h r from (suc n) le =
    let size : ℕ = sample_bytes_of h r.field in
    let skipped : ℕ = size * (from - r.first) in
    let later : from + 1 - r.first ≡ suc (from - r.first) = omega arith in
    let behind : size * (from + 1 - r.first) ≡ skipped + size = ap (λ m. size * m) later ∙ omega arith in
    let more : size + size * n ≡ size * suc n = omega arith in
    ap (λ x. take size (drop skipped r.bytes) ++ x) (run_range h r (from + 1) n (omega arith))
    ∙ ap (λ m. take size (drop skipped r.bytes) ++ take (size * n) (drop m r.bytes)) behind
    ∙ ap (λ x. take size (drop skipped r.bytes) ++ take (size * n) x) (sym (drop-drop size skipped r.bytes))
    ∙ sym (take-add size (size * n) (drop skipped r.bytes))
    ∙ ap (λ m. take m (drop skipped r.bytes)) more

pub samples_run : (h : HeaderValue) (field from to : ℕ) (runs : List Run) (r : Run) → AreApart h runs → IsNext h field from runs (Some r) → r.first ≤ from → from ≤ to → to ≤ end_of h r →
    flat_map (sample_among h runs field) (range_with_len from (to - from))
    ≡ slice_range r.bytes (sample_bytes_of h r.field * (from - r.first)) (sample_bytes_of h r.field * (to - r.first))
samples_run h field from to runs r apart next begun le end =
    let size : ℕ = sample_bytes_of h r.field in
    let is = left_is h field from r next.0 in
    let parts : (to - r.first) ≡ (from - r.first) + (to - from) = omega arith in
    let product : size * (to - r.first) ≡ size * (from - r.first) + size * (to - from) = ap (λ m. size * m) parts ∙ omega arith in
    let count : size * (to - from) ≡ size * (to - r.first) - size * (from - r.first) = omega (arith, product) in
    flat_map-range (sample_among h runs field) (λ address. run_sample h address r) from (to - from)
    (λ k above below. sample_run h field k runs r apart next.1 (has_from h field k r is.0 (omega arith) (omega arith)))
    ∙ run_range h r from (to - from) begun
    ∙ ap (λ m. take m (drop (size * (from - r.first)) r.bytes)) count

-- how long some samples of whole ones are, from an address on and before another
pub length-cut : (size first count from to : ℕ) (bytes : List ℕ) → length bytes ≡ size * count → first ≤ from → from ≤ to → to ≤ first + count →
    length (slice_range bytes (size * (from - first)) (size * (to - first))) ≡ size * (to - from)
length-cut size first count from to bytes whole begun le end =
    let skipped : ℕ = size * (from - first) in
    let parts : to - first ≡ (from - first) + (to - from) = omega arith in
    let product : size * (to - first) ≡ skipped + size * (to - from) = ap (λ m. size * m) parts ∙ omega arith in
    let inside : to - first ≤ count = omega arith in
    let most : size * (to - first) ≤ size * count = mul-le-mul_left size inside in
    length-take-le (size * (to - first) - skipped) (drop skipped bytes) (omega (arith, product, most, whole, length-drop skipped bytes)) ∙ omega (arith, product)

-- a range in two
pub range_two : (f : ℕ → List ℕ) (from to end : ℕ) → from ≤ to → to ≤ end →
    flat_map f (range_with_len from (to - from)) ++ flat_map f (range_with_len to (end - to)) ≡ flat_map f (range_with_len from (end - from))
range_two f from to end le within =
    let all : end - from ≡ (to - from) + (end - to) = omega arith in
    let at : from + (to - from) ≡ to = omega arith in
    sym (ap (λ n. flat_map f (range_with_len from n)) all
    ∙ ap (flat_map f) (range-split from (to - from) (end - to))
    ∙ flat_map-append f (range_with_len from (to - from)) (range_with_len (from + (to - from)) (end - to))
    ∙ ap (λ a. flat_map f (range_with_len from (to - from)) ++ flat_map f (range_with_len a (end - to))) at)
