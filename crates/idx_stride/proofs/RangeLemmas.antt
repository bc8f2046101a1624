-- Lists that are made piece by piece.
use Rattle.std.proofs.Common.{◌≡◌, ℕ, zero, suc, ◌+◌, ◌-◌, ◌<◌, ◌≤◌, Bool, List, [], ◌∷◌, ◌++◌, length, map, filter, refl, ap, ◌∙◌, arith, append-nil, length-append, All}
use Rattle.std.specs.List.{flat_map, range_with_len}
use Rattle.std.proofs.lemmas.List.{map-append}
use Rattle.std.proofs.lemmas.List.Concat.{flat_map-append}
use Rattle.std.proofs.lemmas.List.Elements.{filter-append, All-nil, All-cons, All-head, All-tail, All-append}

-- pieces of pieces
pub flat_map-of_flat_map : {X Y Z : Type 0} (f : Y → List Z) (g : X → List Y) (xs : List X) → flat_map f (flat_map g xs) ≡ flat_map (λ x. flat_map f (g x)) xs
flat_map-of_flat_map f g [] = refl
flat_map-of_flat_map f g (x ∷ xs) = flat_map-append f (g x) (flat_map g xs) ∙ ap (λ t. flat_map f (g x) ++ t) (flat_map-of_flat_map f g xs)

pub map-of_flat_map : {X Y Z : Type 0} (f : Y → Z) (g : X → List Y) (xs : List X) → map f (flat_map g xs) ≡ flat_map (λ x. map f (g x)) xs
map-of_flat_map f g [] = refl
map-of_flat_map f g (x ∷ xs) = map-append f (g x) (flat_map g xs) ∙ ap (λ t. map f (g x) ++ t) (map-of_flat_map f g xs)

pub filter-of_flat_map : {X Y : Type 0} (p : Y → Bool) (g : X → List Y) (xs : List X) → filter p (flat_map g xs) ≡ flat_map (λ x. filter p (g x)) xs
filter-of_flat_map p g [] = refl
filter-of_flat_map p g (x ∷ xs) = filter-append p (g x) (flat_map g xs) ∙ ap (λ t. filter p (g x) ++ t) (filter-of_flat_map p g xs)

pub map-of_map : {X Y Z : Type 0} (f : Y → Z) (g : X → Y) (xs : List X) → map f (map g xs) ≡ map (λ x. f (g x)) xs
map-of_map f g [] = refl
map-of_map f g (x ∷ xs) = ap (λ t. f (g x) ∷ t) (map-of_map f g xs)

-- what holds of each element of each piece holds of each
pub All-flat_map : {X Y : Type 0} (P : Y → Type 0) (f : X → List Y) (xs : List X) → All (λ x. All P (f x)) xs → All P (flat_map f xs)
All-flat_map P f [] h = All-nil P
All-flat_map P f (x ∷ xs) h =
    All-append P (f x) (flat_map f xs) (All-head (λ x. All P (f x)) x xs h) (All-flat_map P f xs (All-tail (λ x. All P (f x)) x xs h))

pub All-range : (P : ℕ → Type 0) (a n : ℕ) → ((k : ℕ) → a ≤ k → k < a + n → P k) → All P (range_with_len a n)
All-range P a zero h = All-nil P
All-range P a (suc n) h = All-cons P a (range_with_len (a + 1) n) (h a (omega arith) (omega arith)) (All-range P (a + 1) n (λ k le lt. h k (omega arith) (omega arith)))

-- pieces that are the same at each number
pub flat_map-range_same : {X : Type 0} (f g : ℕ → List X) (a n : ℕ) → ((k : ℕ) → a ≤ k → k < a + n → f k ≡ g k) → flat_map f (range_with_len a n) ≡ flat_map g (range_with_len a n)
flat_map-range_same f g a zero h = refl
flat_map-range_same f g a (suc n) h =
    let here : f a ≡ g a = h a (omega arith) (omega arith) in
    let rest : flat_map f (range_with_len (a + 1) n) ≡ flat_map g (range_with_len (a + 1) n) = flat_map-range_same f g (a + 1) n (λ k le lt. h k (omega arith) (omega arith)) in
    λ i. here i ++ rest i

pub flat_map-range_shift : {X : Type 0} (f : ℕ → List X) (d a n : ℕ) → flat_map f (range_with_len (d + a) n) ≡ flat_map (λ k. f (d + k)) (range_with_len a n)
flat_map-range_shift f d a zero = refl
flat_map-range_shift f d a (suc n) =
    let next : d + a + 1 ≡ d + (a + 1) = omega arith in
    ap (λ t. f (d + a) ++ t) (ap (λ b. flat_map f (range_with_len b n)) next ∙ flat_map-range_shift f d (a + 1) n)

pub range-append : (a m n : ℕ) → range_with_len a (m + n) ≡ range_with_len a m ++ range_with_len (a + m) n
range-append a zero n =
    let none : zero + n ≡ n = omega arith in
    let same : a ≡ a + zero = omega arith in
    ap (range_with_len a) none ∙ ap (λ b. range_with_len b n) same
range-append a (suc m) n =
    let one : suc m + n ≡ suc (m + n) = omega arith in
    let same : a + 1 + m ≡ a + suc m = omega arith in
    ap (range_with_len a) one ∙ ap (λ t. a ∷ t) (range-append (a + 1) m n ∙ ap (λ b. range_with_len (a + 1) m ++ range_with_len b n) same)

pub flat_map-range_append : {X : Type 0} (f : ℕ → List X) (a m n : ℕ) → flat_map f (range_with_len a (m + n)) ≡ flat_map f (range_with_len a m) ++ flat_map f (range_with_len (a + m) n)
flat_map-range_append f a m n = ap (flat_map f) (range-append a m n) ∙ flat_map-append f (range_with_len a m) (range_with_len (a + m) n)

-- one piece more
pub flat_map-range_more : {X : Type 0} (f : ℕ → List X) (n : ℕ) → flat_map f (range_with_len 0 (n + 1)) ≡ flat_map f (range_with_len 0 n) ++ f n
flat_map-range_more f n =
    flat_map-range_append f 0 n 1
    ∙ ap (λ t. flat_map f (range_with_len 0 n) ++ t) (append-nil (f (0 + n)) ∙ ap f (let none : 0 + n ≡ n = omega arith in none))

-- a piece, and those before it, are part of the whole
pub length-flat_map-range : {X : Type 0} (f : ℕ → List X) (n m : ℕ) → n < m → length (flat_map f (range_with_len 0 n)) + length (f n) ≤ length (flat_map f (range_with_len 0 m))
length-flat_map-range f n m h =
    let whole : m ≡ (n + 1) + (m - (n + 1)) = omega arith in
    let rest : List _ = flat_map f (range_with_len (0 + (n + 1)) (m - (n + 1))) in
    omega (
      arith,
      ap (λ k. length (flat_map f (range_with_len 0 k))) whole,
      ap length (flat_map-range_append f 0 (n + 1) (m - (n + 1))),
      length-append (flat_map f (range_with_len 0 (n + 1))) rest,
      ap length (flat_map-range_more f n),
      length-append (flat_map f (range_with_len 0 n)) (f n),
    )

pub length-flat_map-range_le : {X : Type 0} (f : ℕ → List X) (n m : ℕ) → n ≤ m → length (flat_map f (range_with_len 0 n)) ≤ length (flat_map f (range_with_len 0 m))
length-flat_map-range_le f n m h =
    let whole : m ≡ n + (m - n) = omega arith in
    let rest : List _ = flat_map f (range_with_len (0 + n) (m - n)) in
    omega (
      arith,
      ap (λ k. length (flat_map f (range_with_len 0 k))) whole,
      ap length (flat_map-range_append f 0 n (m - n)),
      length-append (flat_map f (range_with_len 0 n)) rest,
    )
