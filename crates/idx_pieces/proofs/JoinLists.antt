-- Lists joined end to end, and the points of boxes of more axes.
use Rattle.std.proofs.Common.{◌≡◌, ℕ, zero, suc, ◌+◌, ◌*◌, ◌<◌, ◌≤◌, Bool, true, false, cond, List, [], ◌∷◌, ◌++◌, length, map, take, drop, get_or, refl, sym, ap, ◌∙◌, arith, append_assoc, length-append}
use Rattle.std.specs.Prelude.{filter, Contains}
use Rattle.std.specs.List.{flat_map, range_with_len}
use Rattle.std.proofs.lemmas.List.{append-nil, drop-drop, drop_at, take_at, map-append}
use Rattle.idx_geom.specs.Region.{extent, points}
use Rattle.idx_layout.proofs.ListLemmas.{range-split}

-- ---- functions over joined lists

pub joined_append : {Y Z : Type 0} → (f : Y → List Z) (xs ys : List Y) → flat_map f (xs ++ ys) ≡ flat_map f xs ++ flat_map f ys
joined_append f [] ys = refl
joined_append {Y} {Z} f (x ∷ xs) ys = ap (λ (zs : List Z). f x ++ zs) (joined_append f xs ys) ∙ sym (append_assoc (f x) (flat_map f xs) (flat_map f ys))

pub joined_twice : {X Y Z : Type 0} → (f : Y → List Z) (g : X → List Y) (xs : List X) → flat_map f (flat_map g xs) ≡ flat_map (λ x. flat_map f (g x)) xs
joined_twice f g [] = refl
joined_twice {X} {Y} {Z} f g (x ∷ xs) = joined_append f (g x) (flat_map g xs) ∙ ap (λ (zs : List Z). flat_map f (g x) ++ zs) (joined_twice f g xs)

pub joined_map : {X Y Z : Type 0} → (f : Y → List Z) (g : X → Y) (xs : List X) → flat_map f (map g xs) ≡ flat_map (λ x. f (g x)) xs
joined_map f g [] = refl
joined_map {X} {Y} {Z} f g (x ∷ xs) = ap (λ (zs : List Z). f (g x) ++ zs) (joined_map f g xs)

pub map_joined : {X Y Z : Type 0} → (f : Y → Z) (g : X → List Y) (xs : List X) → map f (flat_map g xs) ≡ flat_map (λ x. map f (g x)) xs
map_joined f g [] = refl
map_joined {X} {Y} {Z} f g (x ∷ xs) = map-append f (g x) (flat_map g xs) ∙ ap (λ (zs : List Z). map f (g x) ++ zs) (map_joined f g xs)

pub map_twice : {X Y Z : Type 0} → (f : Y → Z) (g : X → Y) (xs : List X) → map f (map g xs) ≡ map (λ x. f (g x)) xs
map_twice f g [] = refl
map_twice {X} {Y} {Z} f g (x ∷ xs) = ap (λ (zs : List Z). f (g x) ∷ zs) (map_twice f g xs)

pub joined_agree : {X Z : Type 0} → (f g : X → List Z) (xs : List X) → ((x : X) → f x ≡ g x) → flat_map f xs ≡ flat_map g xs
joined_agree f g [] same = refl
joined_agree {X} {Z} f g (x ∷ xs) same = ap (λ (zs : List Z). zs ++ flat_map f xs) (same x) ∙ ap (λ (zs : List Z). g x ++ zs) (joined_agree f g xs same)

pub joined_within : {X Z : Type 0} → (f g : X → List Z) (xs : List X) → ((x : X) → Contains xs x → f x ≡ g x) → flat_map f xs ≡ flat_map g xs
joined_within f g [] same = refl
joined_within {X} {Z} f g (x ∷ xs) same =
    ap (λ (zs : List Z). zs ++ flat_map f xs) (same x (0, omega arith, refl))
    ∙ ap (λ (zs : List Z). g x ++ zs) (joined_within f g xs (λ y at. same y (suc at.0, omega (arith, at.1), at.2)))

pub joined_single : {X : Type 0} → (xs : List X) → flat_map (λ x. x ∷ []) xs ≡ xs
joined_single [] = refl
joined_single {X} (x ∷ xs) = ap (λ (zs : List X). x ∷ zs) (joined_single xs)

-- what adds nothing may be left out
pub joined_filter : {X Z : Type 0} → (f : X → List Z) (test : X → Bool) (xs : List X) → ((x : X) → Contains xs x → test x ≡ false → f x ≡ []) →
    flat_map f (filter test xs) ≡ flat_map f xs
joined_filter f test [] none = refl
joined_filter {X} {Z} f test (x ∷ xs) none =
    by_test (joined_filter f test xs (λ y at. none y (suc at.0, omega (arith, at.1), at.2))) (test x) refl
  where
    by_test : flat_map f (filter test xs) ≡ flat_map f xs → (t : Bool) → test x ≡ t → flat_map f (filter test (x ∷ xs)) ≡ flat_map f (x ∷ xs)
    by_test more true is =
        ap (λ (t : Bool). flat_map f (cond t (x ∷ filter test xs) (filter test xs))) is ∙ ap (λ (zs : List Z). f x ++ zs) more
    by_test more false is =
        ap (λ (t : Bool). flat_map f (cond t (x ∷ filter test xs) (filter test xs))) is ∙ more
        ∙ ap (λ (zs : List Z). zs ++ flat_map f xs) (sym (none x (0, omega arith, refl) is))

-- a list by its places
pub joined_places : {X Z : Type 0} → (f : X → List Z) (xs : List X) (d : X) (a : ℕ) (g : ℕ → List Z) →
    ((k : ℕ) → k < length xs → g (a + k) ≡ f (get_or xs k d)) → flat_map g (range_with_len a (length xs)) ≡ flat_map f xs
joined_places f [] d a g same = refl
joined_places {X} {Z} f (x ∷ xs) d a g same =
    ap (λ (zs : List Z). zs ++ flat_map g (range_with_len (a + 1) (length xs))) (ap g (zero_more a) ∙ same 0 (omega arith))
    ∙ ap (λ (zs : List Z). f x ++ zs) (joined_places f xs d (a + 1) g (λ k h. ap g (moved a k) ∙ same (suc k) (omega arith)))
  where
    zero_more : (n : ℕ) → n ≡ n + 0
    zero_more n = omega arith

    moved : (n k : ℕ) → n + 1 + k ≡ n + suc k
    moved n k = omega arith

-- ---- one of several lists of the same length

pub length-joined : {X Z : Type 0} → (f : X → List Z) (n : ℕ) (xs : List X) → ((x : X) → length (f x) ≡ n) → length (flat_map f xs) ≡ length xs * n
length-joined f n [] same = omega arith
length-joined f n (x ∷ xs) same = length-append (f x) (flat_map f xs) ∙ omega (arith, same x, length-joined f n xs same)

pub drop_past : {Z : Type 0} → (xs ys : List Z) (n k : ℕ) → length xs ≡ n → drop (n + k) (xs ++ ys) ≡ drop k ys
drop_past {Z} xs ys n k long = sym (drop-drop k n (xs ++ ys)) ∙ ap (drop k) (drop_at xs ys n long)

pub joined_at : {X Z : Type 0} → (f : X → List Z) (n : ℕ) (xs : List X) (rest : List Z) (d : X) (k : ℕ) → ((x : X) → length (f x) ≡ n) → k < length xs →
    take n (drop (k * n) (flat_map f xs ++ rest)) ≡ f (get_or xs k d)
joined_at f n [] rest d k same inside = absurd (omega arith)
joined_at {X} {Z} f n (x ∷ xs) rest d zero same inside =
    ap (λ (m : ℕ). take n (drop m (f x ++ flat_map f xs ++ rest))) (none n)
    ∙ ap (take n) (append_assoc (f x) (flat_map f xs) rest)
    ∙ take_at (f x) (flat_map f xs ++ rest) n (same x)
  where
    none : (m : ℕ) → 0 * m ≡ 0
    none m = omega arith
joined_at {X} {Z} f n (x ∷ xs) rest d (suc k) same inside =
    ap (λ (m : ℕ). take n (drop m (f x ++ flat_map f xs ++ rest))) (next n k)
    ∙ ap (take n) (ap (drop (n + k * n)) (append_assoc (f x) (flat_map f xs) rest) ∙ drop_past (f x) (flat_map f xs ++ rest) n (k * n) (same x))
    ∙ joined_at f n xs rest d k same (omega arith)
  where
    next : (m j : ℕ) → suc j * m ≡ m + j * m
    next m j = omega arith

-- ---- points of more axes

row_behind : (b : ℕ × ℕ) (s : List ℕ) (ps : List (List ℕ)) →
    flat_map (λ slower. map (λ x. x ∷ slower) (range_with_len b.0 (extent b))) (map (λ q. q ++ s) ps)
    ≡ map (λ q. q ++ s) (flat_map (λ slower. map (λ x. x ∷ slower) (range_with_len b.0 (extent b))) ps)
row_behind b s ps =
    joined_map (λ slower. map (λ x. x ∷ slower) (range_with_len b.0 (extent b))) (λ q. q ++ s) ps
    ∙ joined_agree (λ q. map (λ x. x ∷ (q ++ s)) (range_with_len b.0 (extent b))) (λ q. map (λ p. p ++ s) (map (λ x. x ∷ q) (range_with_len b.0 (extent b)))) ps
    (λ q. sym (map_twice (λ p. p ++ s) (λ x. x ∷ q) (range_with_len b.0 (extent b))))
    ∙ sym (map_joined (λ q. q ++ s) (λ slower. map (λ x. x ∷ slower) (range_with_len b.0 (extent b))) ps)

-- the points of a box, for each place of its slower axes
pub points-append : (xs ys : List (ℕ × ℕ)) → points (xs ++ ys) ≡ flat_map (λ s. map (λ q. q ++ s) (points xs)) (points ys)
points-append [] ys = sym (joined_single (points ys))
points-append (b ∷ xs) ys =
    ap (flat_map (λ slower. map (λ x. x ∷ slower) (range_with_len b.0 (extent b)))) (points-append xs ys)
    ∙ joined_twice (λ slower. map (λ x. x ∷ slower) (range_with_len b.0 (extent b))) (λ s. map (λ q. q ++ s) (points xs)) (points ys)
    ∙ joined_agree (λ s. flat_map (λ slower. map (λ x. x ∷ slower) (range_with_len b.0 (extent b))) (map (λ q. q ++ s) (points xs)))
    (λ s. map (λ q. q ++ s) (points (b ∷ xs))) (points ys) (λ s. row_behind b s (points xs))

-- ---- ranges end to end

pub ranges_joined : (lo x from e y : ℕ) → y ≡ x + e → (1 ≤ e → from ≡ lo + x) → range_with_len lo x ++ range_with_len from e ≡ range_with_len lo y
ranges_joined lo x from zero y sum next = append-nil (range_with_len lo x) ∙ ap (range_with_len lo) (omega arith)
ranges_joined lo x from (suc e) y sum next =
    ap (λ (k : ℕ). range_with_len lo x ++ range_with_len k (suc e)) (next (omega arith))
    ∙ sym (range-split lo x (suc e)) ∙ ap (range_with_len lo) (sym sum)
