-- Filters and maps of lists that are made element by element.
use Rattle.std.proofs.Common.{◌≡◌, ℕ, zero, suc, ◌+◌, ◌<◌, ◌≤◌, Bool, true, false, cond, ◌&&◌, List, [], ◌∷◌, ◌++◌, map, filter, refl, ap, ◌∙◌, arith}
use Rattle.std.specs.Prelude.{All}
use Rattle.std.specs.List.{range_with_len, flat_map}
use Rattle.std.proofs.lemmas.List.{map-append}
use Rattle.std.proofs.lemmas.List.Elements.{filter-append, All-head, All-tail}

pub filter-map : {X Y : Type 0} (p : Y → Bool) (g : X → Y) (xs : List X) → filter p (map g xs) ≡ map g (filter (λ x. p (g x)) xs)
filter-map p g [] = refl
filter-map p g (x ∷ xs) =
    elim (p (g x)) as (λ b. cond b (g x ∷ filter p (map g xs)) (filter p (map g xs)) ≡ map g (cond b (x ∷ filter (λ y. p (g y)) xs) (filter (λ y. p (g y)) xs))) [
      | true ↦ ap (λ t. g x ∷ t) (filter-map p g xs)
      | false ↦ filter-map p g xs
    ]

pub filter-flat_map : {X Y : Type 0} (p : Y → Bool) (f : X → List Y) (xs : List X) → filter p (flat_map f xs) ≡ flat_map (λ x. filter p (f x)) xs
filter-flat_map p f [] = refl
filter-flat_map p f (x ∷ xs) = filter-append p (f x) (flat_map f xs) ∙ ap (λ t. filter p (f x) ++ t) (filter-flat_map p f xs)

-- what passes one test and then another passes both
pub filter-filter : {X : Type 0} (p q : X → Bool) (xs : List X) → filter q (filter p xs) ≡ filter (λ x. p x && q x) xs
filter-filter p q [] = refl
filter-filter p q (x ∷ xs) =
    elim (p x) as (λ b. filter q (cond b (x ∷ filter p xs) (filter p xs)) ≡ cond (b && q x) (x ∷ filter (λ y. p y && q y) xs) (filter (λ y. p y && q y) xs)) [
      | true ↦ ap (λ t. cond (q x) (x ∷ t) t) (filter-filter p q xs)
      | false ↦ filter-filter p q xs
    ]

pub flat_map-agree : {X Y : Type 0} (f g : X → List Y) → ((x : X) → f x ≡ g x) → (xs : List X) → flat_map f xs ≡ flat_map g xs
flat_map-agree f g e [] = refl
flat_map-agree f g e (x ∷ xs) = λ i. e x i ++ flat_map-agree f g e xs i

pub map-agree : {X Y : Type 0} (f g : X → Y) → ((x : X) → f x ≡ g x) → (xs : List X) → map f xs ≡ map g xs
map-agree f g e [] = refl
map-agree f g e (x ∷ xs) = λ i. e x i ∷ map-agree f g e xs i

-- the same, where the functions agree at the elements
pub flat_map-agree_on : {X Y : Type 0} (P : X → Type 0) (f g : X → List Y) → ((x : X) → P x → f x ≡ g x) → (xs : List X) → All P xs → flat_map f xs ≡ flat_map g xs
flat_map-agree_on P f g e [] all = refl
flat_map-agree_on P f g e (x ∷ xs) all = λ i. e x (All-head P x xs all) i ++ flat_map-agree_on P f g e xs (All-tail P x xs all) i

pub filter-agree_on : {X : Type 0} (P : X → Type 0) (p q : X → Bool) → ((x : X) → P x → p x ≡ q x) → (xs : List X) → All P xs → filter p xs ≡ filter q xs
filter-agree_on P p q e [] all = refl
filter-agree_on P p q e (x ∷ xs) all =
    ap (λ b. cond b (x ∷ filter p xs) (filter p xs)) (e x (All-head P x xs all))
    ∙ ap (λ t. cond (q x) (x ∷ t) t) (filter-agree_on P p q e xs (All-tail P x xs all))

-- the elements of lists that are made where a test passes
pub flat_map-cond : {X Y : Type 0} (p : X → Bool) (f : X → List Y) (xs : List X) → flat_map (λ x. cond (p x) (f x) []) xs ≡ flat_map f (filter p xs)
flat_map-cond p f [] = refl
flat_map-cond p f (x ∷ xs) =
    elim (p x) as (λ b. cond b (f x) [] ++ flat_map (λ y. cond (p y) (f y) []) xs ≡ flat_map f (cond b (x ∷ filter p xs) (filter p xs))) [
      | true ↦ ap (λ t. f x ++ t) (flat_map-cond p f xs)
      | false ↦ flat_map-cond p f xs
    ]

-- a test that fails everywhere
filter-false : {X : Type 0} (q : X → Bool) (xs : List X) → filter (λ x. false && q x) xs ≡ []
filter-false q [] = refl
filter-false q (x ∷ xs) = filter-false q xs

-- a test that has one part for the whole list
pub map-filter_and : {X Y : Type 0} (g : X → Y) (b : Bool) (q : X → Bool) (xs : List X) → map g (filter (λ x. b && q x) xs) ≡ cond b (map g (filter q xs)) []
map-filter_and g true q xs = refl
map-filter_and g false q xs = ap (map g) (filter-false q xs)

pub map-flat_map : {X Y Z : Type 0} (g : Y → Z) (f : X → List Y) (xs : List X) → map g (flat_map f xs) ≡ flat_map (λ x. map g (f x)) xs
map-flat_map g f [] = refl
map-flat_map g f (x ∷ xs) = map-append g (f x) (flat_map f xs) ∙ ap (λ t. map g (f x) ++ t) (map-flat_map g f xs)

pub flat_map-none : {X Y : Type 0} (xs : List X) → flat_map {X = X} {A = Y} (λ x. []) xs ≡ []
flat_map-none [] = refl
flat_map-none (x ∷ xs) = flat_map-none xs

-- functions that agree at the numbers of a range
pub map-range-agree : {Y : Type 0} (f g : ℕ → Y) (a n end : ℕ) → a + n ≤ end → ((k : ℕ) → k < end → f k ≡ g k) → map f (range_with_len a n) ≡ map g (range_with_len a n)
map-range-agree f g a zero end within e = refl
map-range-agree f g a (suc n) end within e = λ i. e a (omega arith) i ∷ map-range-agree f g (a + 1) n end (omega arith) e i
