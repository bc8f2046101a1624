-- Lists: their last elements, searches that find nothing, and numbers that rise.
use Rattle.std.proofs.Common.{◌≡◌, ℕ, zero, suc, ◌+◌, ◌<◌, ◌≤◌, Bool, true, false, cond, List, [], ◌∷◌, ◌++◌, length, map, take, drop, get_or, refl, sym, ap, ◌∙◌, arith, subst, Some, None, eq-eqb, ne_eqb}
use Rattle.std.specs.Prelude.{◌==◌, ◌||◌, All, Contains, filter, find, reverse}
use Rattle.std.specs.List.{list_any, position_from, range_with_len}
use Rattle.std.proofs.lemmas.List.{get_or-map, length-map, reverse-append}
use Rattle.std.proofs.lemmas.List.Elements.{All-cons, All-filter, All-head, All-map, All-nil, All-push, All-same, All-tail, filter_passes}
use Rattle.std.proofs.lemmas.List.Folds.{list_any_at, list_any_none}

-- ---- maps, and lists from behind

pub map-map : {X Y Z : Type 0} (g : Y → Z) (f : X → Y) (xs : List X) → map g (map f xs) ≡ map (λ x. g (f x)) xs
map-map g f [] = refl
map-map g f (x ∷ xs) = ap (λ rest. g (f x) ∷ rest) (map-map g f xs)

pub map_itself : {X : Type 0} (xs : List X) → map (λ x. x) xs ≡ xs
map_itself [] = refl
map_itself (x ∷ xs) = ap (λ rest. x ∷ rest) (map_itself xs)

pub last_same : {X : Type 0} (xs ys : List X) (x y : X) → xs ++ x ∷ [] ≡ ys ++ y ∷ [] → (xs ≡ ys) × (x ≡ y)
last_same [] [] x y e = (refl, cc)
last_same [] (b ∷ []) x y e = absurd (cc)
last_same [] (b ∷ c ∷ ys) x y e = absurd (cc)
last_same (a ∷ []) [] x y e = absurd (cc)
last_same (a ∷ c ∷ xs) [] x y e = absurd (cc)
last_same {X} (a ∷ xs) (b ∷ ys) x y e =
    let first : a ≡ b = cc in
    let rest : xs ++ x ∷ [] ≡ ys ++ y ∷ [] = cc in
    let both = last_same xs ys x y rest in
    (ap (λ z. z ∷ xs) first ∙ ap (λ zs. b ∷ zs) both.0, both.1)

pub reverse_push : {X : Type 0} (xs : List X) (x : X) → reverse (xs ++ x ∷ []) ≡ x ∷ reverse xs
reverse_push xs x = reverse-append xs (x ∷ [])

pub All-reverse : {X : Type 0} (P : X → Type 0) (xs : List X) → All P xs → All P (reverse xs)
All-reverse P [] all = All-nil P
All-reverse P (x ∷ xs) all =
    All-same P (reverse (x ∷ xs)) (reverse xs ++ x ∷ []) (reverse-append (x ∷ []) xs)
    (All-push P (reverse xs) x (All-reverse P xs (All-tail P x xs all)) (All-head P x xs all))

-- a fact of what two lists have in common
pub All-through : {X Y Z : Type 0} (P : Z → Type 0) (f : X → Z) (g : Y → Z) (xs : List X) (ys : List Y) → map f xs ≡ map g ys → All (λ y. P (g y)) ys → All (λ x. P (f x)) xs
All-through P f g xs ys same all k d lt =
    let on : All P (map f xs) = All-same P (map f xs) (map g ys) same (All-map P g ys all) in
    subst P (get_or-map f xs k d (f d) lt) (on k (f d) (omega (arith, lt, length-map xs f)))

-- ---- searches

pub find_nothing : {X : Type 0} (t : X → Bool) (xs : List X) → All (λ x. t x ≡ false) xs → find t xs ≡ None
find_nothing t [] all = refl
find_nothing t (x ∷ xs) all =
    ap (λ (b : Bool). cond b (Some x) (find t xs)) (All-head (λ y. t y ≡ false) x xs all) ∙ find_nothing t xs (All-tail (λ y. t y ≡ false) x xs all)

pub position_nothing : {X : Type 0} (t : X → Bool) (i : ℕ) (xs : List X) → All (λ x. t x ≡ false) xs → position_from t i xs ≡ None
position_nothing t i [] all = refl
position_nothing t i (x ∷ xs) all =
    ap (λ (b : Bool). cond b (Some i) (position_from t (i + 1) xs)) (All-head (λ y. t y ≡ false) x xs all)
    ∙ position_nothing t (i + 1) xs (All-tail (λ y. t y ≡ false) x xs all)

pub any-map : {X : Type 0} (f : X → ℕ) (x : ℕ) (xs : List X) → list_any (λ y. f y == x) xs ≡ list_any (λ y. y == x) (map f xs)
any-map f x [] = refl
any-map f x (y ∷ ys) = ap (λ (b : Bool). (f y == x) || b) (any-map f x ys)

-- ---- a number among some

pub test_from_contains : (xs : List ℕ) (x : ℕ) → Contains xs x → list_any (λ y. y == x) xs ≡ true
test_from_contains xs x at = list_any_at (λ y. y == x) xs at.0 x at.1 (eq-eqb (get_or xs at.0 x) x at.2)

-- what a filter has of a list is what passes
pub any_filtered : (t : ℕ → Bool) (xs : List ℕ) (x : ℕ) (b : Bool) → t x ≡ b → (b ≡ true → Contains (filter t xs) x) → list_any (λ y. y == x) (filter t xs) ≡ b
any_filtered t xs x true e found = test_from_contains (filter t xs) x (found refl)
any_filtered t xs x false e found =
    list_any_none (λ y. y == x) (filter t xs)
    (λ k d lt. ne_eqb (get_or (filter t xs) k d) x (λ same.
    let passes : t (get_or (filter t xs) k d) ≡ true = filter_passes t xs k d lt in
    let wrong : false ≡ true = sym e ∙ sym (ap t same) ∙ passes in
    absurd (cc)))

-- ---- numbers that rise

-- each number is above all before it
abbrev pub Rises : List ℕ → Type 0
Rises [] = Unit {0}
Rises (x ∷ xs) = All (λ y. x < y) xs × Rises xs

pub from_below : (a n : ℕ) → All (λ y. a ≤ y) (range_with_len a n)
from_below a zero = All-nil (λ y. a ≤ y)
from_below a (suc n) = All-cons (λ y. a ≤ y) a (range_with_len (a + 1) n) (omega arith) (λ k d lt. omega (arith, from_below (a + 1) n k d lt))

pub rises_filtered : (t : ℕ → Bool) (a n : ℕ) → Rises (filter t (range_with_len a n))
rises_filtered t a zero = tt
rises_filtered t a (suc n) = by_test (rises_filtered t (a + 1) n) (t a)
  where
    above : All (λ y. a < y) (filter t (range_with_len (a + 1) n))
    above = All-filter t (λ y. a < y) (range_with_len (a + 1) n) (λ k d lt. omega (arith, from_below (a + 1) n k d lt))

    by_test : Rises (filter t (range_with_len (a + 1) n)) → (b : Bool) → Rises (cond b (a ∷ filter t (range_with_len (a + 1) n)) (filter t (range_with_len (a + 1) n)))
    by_test rest true = (above, rest)
    by_test rest false = rest

-- no number comes again
pub not_behind : (xs : List ℕ) (k : ℕ) → Rises xs → k < length xs → list_any (λ y. y == get_or xs k 0) (drop (suc k) xs) ≡ false
not_behind [] k rises lt = absurd (omega arith)
not_behind (x ∷ xs) zero rises lt = list_any_none (λ y. y == x) xs (λ k d inside. ne_eqb (get_or xs k d) x (λ same. omega (arith, rises.0 k d inside, same)))
not_behind (x ∷ xs) (suc k) rises lt = not_behind xs k rises.1 (omega (arith, lt))

pub not_before : (xs : List ℕ) (k : ℕ) → Rises xs → k < length xs → list_any (λ y. y == get_or xs k 0) (take k xs) ≡ false
not_before [] k rises lt = absurd (omega arith)
not_before (x ∷ xs) zero rises lt = refl
not_before (x ∷ xs) (suc k) rises lt =
    let inside : k < length xs = omega (arith, lt) in
    let other : (x == get_or xs k 0) ≡ false = ne_eqb x (get_or xs k 0) (λ same. omega (arith, rises.0 k 0 inside, same)) in
    ap (λ (b : Bool). b || list_any (λ y. y == get_or xs k 0) (take k xs)) other ∙ not_before xs k rises.1 inside
