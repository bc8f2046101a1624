-- Lists whose elements differ from each other, and what holds of each element of a list that is mapped or joined.
use Rattle.std.proofs.Common.{◌≡◌, ◌≢◌, ℕ, zero, suc, ◌+◌, ◌<◌, Bool, List, [], ◌∷◌, ◌++◌, get_or, map, take, drop, refl, sym, ap, ◌∙◌, subst, arith}
use Rattle.std.specs.Prelude.{All, AllPairs, filter}
use Rattle.std.specs.List.{AllZip, range_with_len}
use Rattle.std.proofs.lemmas.List.{get_or_append_left, get_or-map, length-append, length-map, take-append-drop}
use Rattle.std.proofs.lemmas.List.Elements.{All-cons, All-head, All-nil, All-tail}
use Rattle.std.proofs.lemmas.List.Kept.{AllPairs-cons, AllPairs-filter}

-- ---- the elements of a list

pub All-front : {X : Type 0} (P : X → Type 0) (xs ys : List X) → All P (xs ++ ys) → All P xs
All-front P [] ys all = All-nil P
All-front P (x ∷ xs) ys all = All-cons P x xs (All-head P x (xs ++ ys) all) (All-front P xs ys (All-tail P x (xs ++ ys) all))

pub All-back : {X : Type 0} (P : X → Type 0) (xs ys : List X) → All P (xs ++ ys) → All P ys
All-back P [] ys all = all
All-back P (x ∷ xs) ys all = All-back P xs ys (All-tail P x (xs ++ ys) all)

pub All-of_map : {X Y : Type 0} (P : X → Type 0) (f : Y → X) (ys : List Y) → All P (map f ys) → All (λ y. P (f y)) ys
All-of_map P f ys all = λ k d within. subst P (get_or-map f ys k d (f d) within) (all k (f d) (omega (arith, length-map ys f)))

pub All-zip : {X : Type 0} (P Q : X → Type 0) (R : X → X → Type 0) → ((x y : X) → P x → R x y → Q y) → (xs ys : List X) → All P xs → AllZip R xs ys → All Q ys
All-zip P Q R step [] [] all r = All-nil Q
All-zip P Q R step [] (y ∷ ys) all r = absurd r
All-zip P Q R step (x ∷ xs) [] all r = absurd r
All-zip P Q R step (x ∷ xs) (y ∷ ys) all r = All-cons Q y ys (step x y (All-head P x xs all) r.0) (All-zip P Q R step xs ys (All-tail P x xs all) r.1)

pub map_zip : {X Y : Type 0} (f : X → Y) (R : X → X → Type 0) → ((x y : X) → R x y → f y ≡ f x) → (xs ys : List X) → AllZip R xs ys → map f ys ≡ map f xs
map_zip f R step [] [] r = refl
map_zip f R step [] (y ∷ ys) r = absurd r
map_zip f R step (x ∷ xs) [] r = absurd r
map_zip f R step (x ∷ xs) (y ∷ ys) r =
    ap (λ z. z ∷ map f ys) (step x y r.0) ∙ ap (λ zs. f x ∷ zs) (map_zip f R step xs ys r.1)

-- ---- pairs

pub pairs_front : {X : Type 0} (R : X → X → Type 0) (xs ys : List X) → AllPairs R (xs ++ ys) → AllPairs R xs
pairs_front R xs ys all = λ i j d less within.
    subst (λ x. R x (get_or xs j d)) (get_or_append_left xs ys d i (omega arith))
    (subst (λ y. R (get_or (xs ++ ys) i d) y) (get_or_append_left xs ys d j within) (all i j d less (omega (arith, length-append xs ys))))

pub pairs_head : {X : Type 0} (R : X → X → Type 0) (x : X) (xs : List X) → AllPairs R (x ∷ xs) → All (R x) xs
pairs_head R x xs all = λ k d within. all 0 (suc k) d (omega arith) (omega arith)

pub pairs_tail : {X : Type 0} (R : X → X → Type 0) (x : X) (xs : List X) → AllPairs R (x ∷ xs) → AllPairs R xs
pairs_tail R x xs all = λ i j d less within. all (suc i) (suc j) d (omega arith) (omega arith)

pub pairs_drop : {X : Type 0} (R : X → X → Type 0) (n : ℕ) (xs : List X) → AllPairs R xs → AllPairs R (drop n xs)
pairs_drop R zero xs all = all
pairs_drop R (suc n) [] all = all
pairs_drop R (suc n) (x ∷ xs) all = pairs_drop R n xs (pairs_tail R x xs all)

pub pairs_take : {X : Type 0} (R : X → X → Type 0) (n : ℕ) (xs : List X) → AllPairs R xs → AllPairs R (take n xs)
pairs_take R n xs all = pairs_front R (take n xs) (drop n xs) (subst (AllPairs R) (sym (take-append-drop n xs)) all)

pub pairs_of_map : {X Y : Type 0} (R : X → X → Type 0) (f : Y → X) (ys : List Y) → AllPairs R (map f ys) → AllPairs (λ a b. R (f a) (f b)) ys
pairs_of_map R f ys all = λ i j d less within.
    subst (λ x. R x (f (get_or ys j d))) (get_or-map f ys i d (f d) (omega arith))
    (subst (λ y. R (get_or (map f ys) i (f d)) y) (get_or-map f ys j d (f d) within) (all i j (f d) less (omega (arith, length-map ys f))))

range_past : (n low x : ℕ) → x < low → All (λ y. x ≢ y) (range_with_len low n)
range_past zero low x less = All-nil (λ y. x ≢ y)
range_past (suc n) low x less = All-cons (λ y. x ≢ y) low (range_with_len (low + 1) n) (λ same. omega arith) (range_past n (low + 1) x (omega arith))

range_apart : (n low : ℕ) → AllPairs (λ x y. x ≢ y) (range_with_len low n)
range_apart zero low = λ i j d less within. absurd (omega arith)
range_apart (suc n) low = AllPairs-cons (λ x y. x ≢ y) low (range_with_len (low + 1) n) (range_past n (low + 1) low (omega arith)) (range_apart n (low + 1))

-- those numbers of a range that pass a test differ from each other
pub kept_apart : (test : ℕ → Bool) (low n : ℕ) → AllPairs (λ x y. x ≢ y) (filter test (range_with_len low n))
kept_apart test low n = AllPairs-filter (λ x y. x ≢ y) test (range_with_len low n) (range_apart n low)
