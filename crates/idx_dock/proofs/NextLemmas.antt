-- The next run of a field among those of several pieces.
use Rattle.std.proofs.Common.{◌≡◌, ◌≢◌, ℕ, zero, suc, ◌+◌, ◌<◌, ◌≤◌, Bool, true, false, cond, List, [], ◌∷◌, ◌++◌, length, get_or, take, set, refl, sym, ap, ◌∙◌, subst, arith, inl, inr, Option, Some, None, ltb-true, ltb-false, le-ltb, eqb-true}
use Rattle.std.specs.Prelude.{◌⊎◌, ◌&&◌, ◌==◌, nat_lt, slice_get}
use Rattle.std.specs.List.{AllByRecursion}
use Rattle.std.proofs.lemmas.List.{take_more, length-set, get_or_default}
use Rattle.std.proofs.lemmas.Bool.{cases_eq}
use Rattle.std.proofs.lemmas.Grind.{flat_map-append, get_or-set_at}
use Rattle.std.proofs.Common.{get_or-set_other, append-nil}
use Rattle.idx_header.specs.Header.{HeaderValue}
use Rattle.idx_pieces.specs.declared.run.Run.{Run}
use Rattle.idx_dock.specs.declared.awaited.Awaited.{Awaited}
use Rattle.idx_dock.specs.Content.{runs_in}
use Rattle.idx_dock.specs.Next.{ArePassed, IsNext, IsOneOf, IsPassed, RiseIn, earlier_of, end_of, is_left, runs_of}

AllByRecursion-append : {X : Type 0} (P : X → Type 0) (xs ys : List X) → AllByRecursion P xs → AllByRecursion P ys → AllByRecursion P (xs ++ ys)
AllByRecursion-append P [] ys here more = more
AllByRecursion-append P (x ∷ xs) ys here more = (here.0, AllByRecursion-append P xs ys here.1 more)

pub AllByRecursion-weaker : {X : Type 0} (P Q : X → Type 0) → ((x : X) → P x → Q x) → (xs : List X) → AllByRecursion P xs → AllByRecursion Q xs
AllByRecursion-weaker P Q f [] all = all
AllByRecursion-weaker P Q f (x ∷ xs) all = (f x all.0, AllByRecursion-weaker P Q f xs all.1)

pub IsOneOf-front : (xs ys : List Run) (r : Run) → IsOneOf xs r → IsOneOf (xs ++ ys) r
IsOneOf-front [] ys r here = absurd here
IsOneOf-front (x ∷ xs) ys r (inl same) = inl same
IsOneOf-front (x ∷ xs) ys r (inr more) = inr (IsOneOf-front xs ys r more)

pub IsOneOf-back : (xs ys : List Run) (r : Run) → IsOneOf ys r → IsOneOf (xs ++ ys) r
IsOneOf-back [] ys r here = here
IsOneOf-back (x ∷ xs) ys r here = inr (IsOneOf-back xs ys r here)

-- what no run passes is at least any bound
none_left : (h : HeaderValue) (field from bound : ℕ) (xs : List Run) → AllByRecursion (λ q. is_left h field from q ≡ false) xs → AllByRecursion (λ q. is_left h field from q ≡ true → bound ≤ q.first) xs
none_left h field from bound xs none =
    AllByRecursion-weaker (λ q. is_left h field from q ≡ false) (λ q. is_left h field from q ≡ true → bound ≤ q.first)
    (λ q gone yes. let wrong : true ≡ false = sym yes ∙ gone in cc) xs none

lower : (h : HeaderValue) (field from a b : ℕ) (xs : List Run) → b ≤ a → AllByRecursion (λ q. is_left h field from q ≡ true → a ≤ q.first) xs → AllByRecursion (λ q. is_left h field from q ≡ true → b ≤ q.first) xs
lower h field from a b xs le all =
    AllByRecursion-weaker (λ q. is_left h field from q ≡ true → a ≤ q.first) (λ q. is_left h field from q ≡ true → b ≤ q.first)
    (λ q above yes. let more : a ≤ q.first = above yes in omega arith) xs all

-- of the next runs of two lists, the earlier is that of both
pub IsNext-append : (h : HeaderValue) (field from : ℕ) (xs ys : List Run) (o p : Option Run) → IsNext h field from xs o → IsNext h field from ys p → IsNext h field from (xs ++ ys) (earlier_of o p)
IsNext-append h field from xs ys None None one other = AllByRecursion-append (λ q. is_left h field from q ≡ false) xs ys one other
IsNext-append h field from xs ys None (Some q) one other =
    (other.0, IsOneOf-back xs ys q other.1, AllByRecursion-append (λ x. is_left h field from x ≡ true → q.first ≤ x.first) xs ys (none_left h field from q.first xs one) other.2)
IsNext-append h field from xs ys (Some r) None one other =
    (one.0, IsOneOf-front xs ys r one.1, AllByRecursion-append (λ x. is_left h field from x ≡ true → r.first ≤ x.first) xs ys one.2 (none_left h field from r.first ys other))
IsNext-append h field from xs ys (Some r) (Some q) one other = by_test (nat_lt q.first r.first) refl
  where
    by_test : (b : Bool) → nat_lt q.first r.first ≡ b → IsNext h field from (xs ++ ys) (cond b (Some q) (Some r))
    by_test true is =
        let less : q.first < r.first = ltb-true q.first r.first is in
        (other.0, IsOneOf-back xs ys q other.1, AllByRecursion-append (λ x. is_left h field from x ≡ true → q.first ≤ x.first) xs ys (lower h field from r.first q.first xs (omega arith) one.2) other.2)
    by_test false is =
        let more : r.first ≤ q.first = ltb-false q.first r.first is in
        (one.0, IsOneOf-front xs ys r one.1, AllByRecursion-append (λ x. is_left h field from x ≡ true → r.first ≤ x.first) xs ys one.2 (lower h field from q.first r.first ys more other.2))

pub both-true : (a b : Bool) → (a && b) ≡ true → (a ≡ true) × (b ≡ true)
both-true true true e = (refl, refl)
both-true true false e = let wrong : false ≡ true = e in cc
both-true false b e = let wrong : false ≡ true = e in cc

-- what a run that is left is
pub left_is : (h : HeaderValue) (field from : ℕ) (q : Run) → is_left h field from q ≡ true → (q.field ≡ field) × (from < end_of h q)
left_is h field from q left =
    let both = both-true (q.field == field) (nat_lt from (end_of h q)) left in
    (eqb-true q.field field both.0, ltb-true from (end_of h q) both.1)

IsNext-cons : (h : HeaderValue) (field from : ℕ) (r : Run) (runs : List Run) (o : Option Run) → is_left h field from r ≡ false → IsNext h field from runs o → IsNext h field from (r ∷ runs) o
IsNext-cons h field from r runs None gone next = (gone, next)
IsNext-cons h field from r runs (Some q) gone next = (next.0, inr next.1, ((λ yes. let wrong : true ≡ false = sym yes ∙ gone in cc), next.2))

-- of rising runs the first that is left is the next
pub next_at : (h : HeaderValue) (field from : ℕ) (runs : List Run) (place : ℕ) → RiseIn h field runs → IsPassed h field from runs place →
    ((d : Run) → place < length runs → is_left h field from (get_or runs place d) ≡ true) → IsNext h field from runs (slice_get runs place)
next_at h field from [] place rise passed left = tt
next_at h field from (r ∷ runs) zero rise passed left =
    let here : is_left h field from r ≡ true = left r (omega arith) in
    let later = AllByRecursion-weaker (λ q. q.field ≡ field → end_of h r ≤ q.first) (λ q. is_left h field from q ≡ true → r.first ≤ q.first)
    (λ q above yes. let more : end_of h r ≤ q.first = above (left_is h field from q yes).0 in omega arith) runs (rise.0 (left_is h field from r here).0) in
    (here, inl refl, ((λ yes. omega arith), later))
next_at h field from (r ∷ runs) (suc place) rise passed left =
    IsNext-cons h field from r runs (slice_get runs place) (passed 0 r (omega arith) (omega arith))
    (next_at h field from runs place rise.1 (λ k d less within. passed (suc k) d (omega arith) (omega arith)) (λ d within. left d (omega arith)))

-- the runs of one piece more
pub runs_more : (awaited : List Awaited) (i : ℕ) (d : Awaited) → i < length awaited → runs_in (take (i + 1) awaited) ≡ runs_in (take i awaited) ++ runs_of (get_or awaited i d)
runs_more awaited i d within =
    ap runs_in (take_more awaited i d within)
    ∙ flat_map-append runs_of (take i awaited) (get_or awaited i d ∷ [])
    ∙ ap (λ xs. runs_in (take i awaited) ++ xs) (append-nil (runs_of (get_or awaited i d)))

-- the count of a piece is another
pub ArePassed-set : (h : HeaderValue) (field from : ℕ) (awaited : List Awaited) (counts : List ℕ) (i place : ℕ) (item : Awaited) → i < length awaited → item ≡ get_or awaited i item →
    ArePassed h field from awaited counts → IsPassed h field from (runs_of item) place → ArePassed h field from awaited (set counts i place)
ArePassed-set h field from awaited counts i place item within is passed here = record {
  many = length-set counts i place ∙ passed.many;
  each = λ j d inside. by_cases j d inside (cases_eq j i);
}
  where
    by_cases : (j : ℕ) (d : Awaited) → j < length awaited → (j ≡ i) ⊎ (j ≢ i) → IsPassed h field from (runs_of (get_or awaited j d)) (get_or (set counts i place) j 0)
    by_cases j d inside (inl same) =
        let there : i < length counts = subst (λ n. i < n) (sym passed.many) within in
        let value : get_or (set counts i place) j 0 ≡ place = get_or-set_at counts i j place 0 same there in
        let piece : get_or awaited j d ≡ item = ap (λ n. get_or awaited n d) same ∙ get_or_default awaited i d item within ∙ sym is in
        subst (λ n. IsPassed h field from (runs_of (get_or awaited j d)) n) (sym value) (subst (λ a. IsPassed h field from (runs_of a) place) (sym piece) here)
    by_cases j d inside (inr other) =
        let value : get_or (set counts i place) j 0 ≡ get_or counts j 0 = get_or-set_other counts i j place 0 other in
        subst (λ n. IsPassed h field from (runs_of (get_or awaited j d)) n) (sym value) (passed.each j d inside)

-- what is passed at an address is passed behind it
pub ArePassed-behind : (h : HeaderValue) (field from to : ℕ) (awaited : List Awaited) (counts : List ℕ) → from ≤ to → ArePassed h field from awaited counts → ArePassed h field to awaited counts
ArePassed-behind h field from to awaited counts le passed = record {
  many = passed.many;
  each = λ i d within k e less inside. behind (get_or (runs_of (get_or awaited i d)) k e) (passed.each i d within k e less inside);
}
  where
    by_test : (b : Bool) (end : ℕ) → (b && nat_lt from end) ≡ false → (b && nat_lt to end) ≡ false
    by_test true end gone = le-ltb to end (omega (arith, ltb-false from end gone))
    by_test false end gone = refl

    behind : (q : Run) → is_left h field from q ≡ false → is_left h field to q ≡ false
    behind q gone = by_test (q.field == field) (end_of h q) gone
