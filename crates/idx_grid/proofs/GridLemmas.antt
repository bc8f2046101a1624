-- The points of a grid, as a relation and as a test, and how many of them a region has.
use Rattle.std.proofs.Common.{◌≡◌, ℕ, zero, suc, ◌+◌, ◌-◌, ◌*◌, ◌/◌, ◌%◌, ◌^◌, ◌<◌, ◌≤◌, ◌↔◌, Bool, true, false, ◌&&◌, cond, eqb, List, [], ◌∷◌, ◌++◌, length, map, filter, drop, get_or, refl, sym, ap, ◌∙◌, ⊎_elim, arith, length-append}
use Rattle.std.specs.Prelude.{IsTrue}
use Rattle.std.specs.List.{range_with_len, flat_map}
use Rattle.std.proofs.Math.Nat.{mul-le-mul_left, mul-le-mul_right, mul_assoc, mul-mod_left, mod-add-div', div-zero, mod-zero, mod-lt, zero-div, zero-mod}
use Rattle.std.proofs.lemmas.Bool.{and_parts, leb-true, le-leb, eqb-true, eq-eqb, ne_eqb, cases_lt, false_from_ne_true}
use Rattle.std.proofs.lemmas.Nat.{div-mul-add, mod-mul-add}
use Rattle.std.proofs.lemmas.List.{drop_more, get_or-map}
use Rattle.std.proofs.lemmas.List.Elements.{filter-append}
use Rattle.std.proofs.lemmas.List.FromFn.{length-range_with_len}
use Rattle.std.proofs.lemmas.List.Sums.{length-filter, count_by-le-length}
use Rattle.idx_geom.specs.Region.{extent, points, lower_ends, upper_ends}
use Rattle.idx_grid.specs.Grid.{IsOnAxis, IsOnAxes, is_on_axis, is_on_axes}

-- ---- the relation and the test

is_on_axis-true : (first step x : ℕ) → IsOnAxis first step x → is_on_axis first step x ≡ true
is_on_axis-true first step x on =
    let from : first ≤ x = omega (arith, on.1) in
    let past : x - first ≡ on.0 * step = omega (arith, on.1) in
    let rest : (x - first) % step ≡ 0 = ap (λ n. n % step) past ∙ mul-mod_left on.0 step in
    rw (le-leb first x from, eq-eqb ((x - first) % step) 0 rest) refl

IsOnAxis-from_test : (first step x : ℕ) → is_on_axis first step x ≡ true → IsOnAxis first step x
IsOnAxis-from_test first step x test =
    let parts = and_parts _ _ test in
    let from : first ≤ x = leb-true first x parts.0 in
    let rest : (x - first) % step ≡ 0 = eqb-true ((x - first) % step) 0 parts.1 in
    ((x - first) / step, omega (arith, mod-add-div' (x - first) step))

is_on_axes-true : (firsts steps p : List ℕ) → IsOnAxes firsts steps p → is_on_axes firsts steps p ≡ true
is_on_axes-true [] [] [] on = refl
is_on_axes-true [] [] (x ∷ xs) on = absurd on
is_on_axes-true [] (step ∷ steps) p on = absurd on
is_on_axes-true (first ∷ firsts) [] p on = absurd on
is_on_axes-true (first ∷ firsts) (step ∷ steps) [] on = absurd on
is_on_axes-true (first ∷ firsts) (step ∷ steps) (x ∷ xs) on =
    rw (is_on_axis-true first step x on.0, is_on_axes-true firsts steps xs on.1) refl

IsOnAxes-from_test : (firsts steps p : List ℕ) → is_on_axes firsts steps p ≡ true → IsOnAxes firsts steps p
IsOnAxes-from_test [] [] [] test = tt
IsOnAxes-from_test [] [] (x ∷ xs) test = absurd (cc test)
IsOnAxes-from_test [] (step ∷ steps) p test = absurd (cc test)
IsOnAxes-from_test (first ∷ firsts) [] p test = absurd (cc test)
IsOnAxes-from_test (first ∷ firsts) (step ∷ steps) [] test = absurd (cc test)
IsOnAxes-from_test (first ∷ firsts) (step ∷ steps) (x ∷ xs) test =
    let parts = and_parts _ _ test in
    (IsOnAxis-from_test first step x parts.0, IsOnAxes-from_test firsts steps xs parts.1)

pub is_on_axes_iff : (firsts steps p : List ℕ) → IsTrue (is_on_axes firsts steps p) ↔ IsOnAxes firsts steps p
is_on_axes_iff firsts steps p = (IsOnAxes-from_test firsts steps p, is_on_axes-true firsts steps p)

-- ---- one axis

range_with_len-append : (a m n k b : ℕ) → k ≡ m + n → b ≡ a + m → range_with_len a k ≡ range_with_len a m ++ range_with_len b n
range_with_len-append a zero n k b whole next =
    let same : k ≡ n = omega arith in
    let here : a ≡ b = omega arith in
    ap (range_with_len a) same ∙ ap (λ c. range_with_len c n) here
range_with_len-append a (suc m) n k b whole next =
    let more : k ≡ suc (m + n) = omega arith in
    ap (range_with_len a) more ∙ ap (λ t. a ∷ t) (range_with_len-append (a + 1) m n (m + n) b refl (omega arith))

-- how many coordinates, from one on, lie on the axis
abbrev pub axis_count : ℕ → ℕ → ℕ → ℕ → ℕ
axis_count first step a n = length (filter (is_on_axis first step) (range_with_len a n))

pub axis_count-append : (first step a m n k b : ℕ) → k ≡ m + n → b ≡ a + m → axis_count first step a k ≡ axis_count first step a m + axis_count first step b n
axis_count-append first step a m n k b whole next =
    ap (λ xs. length (filter (is_on_axis first step) xs)) (range_with_len-append a m n k b whole next)
    ∙ ap length (filter-append (is_on_axis first step) (range_with_len a m) (range_with_len b n))
    ∙ length-append (filter (is_on_axis first step) (range_with_len a m)) (filter (is_on_axis first step) (range_with_len b n))

one_more : (first step end : ℕ) (b : Bool) → is_on_axis first step end ≡ b → axis_count first step 0 (suc end) ≡ axis_count first step 0 end + cond b 1 0
one_more first step end b is =
    let last : axis_count first step end 1 ≡ cond b 1 0 =
    ap (λ t. length (cond t (end ∷ []) [])) is ∙ elim b as (λ c. length (cond c (end ∷ []) []) ≡ cond c 1 0) [ true ↦ refl | false ↦ refl ] in
    axis_count-append first step 0 end 1 (suc end) end (omega arith) (omega arith) ∙ ap (λ n. axis_count first step 0 end + n) last

-- none before the first one
pub axis_count-before : (first step end : ℕ) → end ≤ first → axis_count first step 0 end ≡ 0
axis_count-before first step zero before = refl
axis_count-before first step (suc end) before =
    let off : is_on_axis first step end ≡ false = false_from_ne_true _ (λ on. let past : first ≤ end = leb-true first end (and_parts _ _ on).0 in omega arith) in
    one_more first step end false off ∙ omega (arith, axis_count-before first step end (omega arith))

-- a number's quotient grows by one where it has no rest
pub div-suc : (m step : ℕ) → (suc m / step ≡ m / step + cond (eqb (suc m % step) 0) 1 0)
div-suc m zero =
    let some : eqb (suc m) 0 ≡ false = ne_eqb (suc m) 0 (λ none. omega arith) in
    rw (mod-zero (suc m), div-zero (suc m), div-zero m, some) (omega arith)
div-suc m (suc s) =
    let step : ℕ = suc s in
    let parts : m % step + m / step * step ≡ m = mod-add-div' m step in
    let below : m % step < step = mod-lt m (omega arith) in
    ⊎_elim
    (λ (rest : m % step + 1 < step).
    let split : suc m ≡ m / step * step + (m % step + 1) = omega arith in
    let quotient : suc m / step ≡ m / step = ap (λ n. n / step) split ∙ div-mul-add (m / step) step (m % step + 1) rest in
    let remainder : suc m % step ≡ m % step + 1 = ap (λ n. n % step) split ∙ mod-mul-add (m / step) step (m % step + 1) rest in
    let some : suc m % step ≡ 0 → ⊥ = λ none. omega arith in
    rw (ne_eqb (suc m % step) 0 some, quotient) (omega arith))
    (λ (whole : step ≤ m % step + 1).
    let split : suc m ≡ (m / step + 1) * step + 0 = omega arith in
    let quotient : suc m / step ≡ m / step + 1 = ap (λ n. n / step) split ∙ div-mul-add (m / step + 1) step 0 (omega arith) in
    let remainder : suc m % step ≡ 0 = ap (λ n. n % step) split ∙ mod-mul-add (m / step + 1) step 0 (omega arith) in
    rw (eq-eqb (suc m % step) 0 remainder, quotient) refl)
    (cases_lt (m % step + 1) step)

-- and from there on one for each step
pub axis_count-past : (first step m end : ℕ) → end ≡ suc (first + m) → axis_count first step 0 end ≡ m / step + 1
axis_count-past first step zero end is =
    let here : end ≡ suc first = omega arith in
    let none : first - first ≡ 0 = omega arith in
    let on : is_on_axis first step first ≡ true = rw (le-leb first first (omega arith), none, zero-mod step) refl in
    ap (axis_count first step 0) here ∙ one_more first step first true on ∙ omega (arith, axis_count-before first step first (omega arith), zero-div step)
axis_count-past first step (suc m) end is =
    let last : ℕ = suc (first + m) in
    let here : end ≡ suc last = omega arith in
    let past : last - first ≡ suc m = omega arith in
    let on : is_on_axis first step last ≡ eqb (suc m % step) 0 = rw (le-leb first last (omega arith), past) refl in
    ap (axis_count first step 0) here
    ∙ one_more first step last (eqb (suc m % step) 0) on
    ∙ omega (arith, axis_count-past first step m last refl, div-suc m step)

-- ---- all axes

-- a row of points with one coordinate each before the slower ones
row_count : (q : ℕ → Bool) (b : Bool) (slower : List ℕ) (p : List ℕ → Bool) → ((x : ℕ) → p (x ∷ slower) ≡ (q x && b)) → (xs : List ℕ) → length (filter p (map (λ x. x ∷ slower) xs)) ≡ length (filter q xs) * cond b 1 0
row_count q b slower p same [] = omega arith
row_count q b slower p same (x ∷ xs) =
    let rest : length (filter p (map (λ x. x ∷ slower) xs)) ≡ length (filter q xs) * cond b 1 0 = row_count q b slower p same xs in
    let tail = filter p (map (λ x. x ∷ slower) xs) in
    ap (λ t. length (cond t ((x ∷ slower) ∷ tail) tail)) (same x)
    ∙ elim (q x) as (λ t. length (cond (t && b) ((x ∷ slower) ∷ tail) tail) ≡ length (cond t (x ∷ filter q xs) (filter q xs)) * cond b 1 0) [
      | true ↦ elim b as (λ c. length tail ≡ length (filter q xs) * cond c 1 0 → length (cond c ((x ∷ slower) ∷ tail) tail) ≡ suc (length (filter q xs)) * cond c 1 0) [
        | true ↦ λ e. omega arith
        | false ↦ λ e. omega arith
      ] rest
      | false ↦ rest
    ]

rows_count : (q : ℕ → Bool) (r p : List ℕ → Bool) (xs : List ℕ) → ((x : ℕ) (slower : List ℕ) → p (x ∷ slower) ≡ (q x && r slower)) → (ps : List (List ℕ)) → length (filter p (flat_map (λ slower. map (λ x. x ∷ slower) xs) ps)) ≡ length (filter q xs) * length (filter r ps)
rows_count q r p xs same [] = omega arith
rows_count q r p xs same (slower ∷ ps) =
    let row = map (λ x. x ∷ slower) xs in
    let rows = flat_map (λ slower. map (λ x. x ∷ slower) xs) ps in
    let one : length (filter r (slower ∷ ps)) ≡ cond (r slower) 1 0 + length (filter r ps) =
    elim (r slower) as (λ c. length (cond c (slower ∷ filter r ps) (filter r ps)) ≡ cond c 1 0 + length (filter r ps)) [ true ↦ omega arith | false ↦ omega arith ] in
    ap length (filter-append p row rows) ∙ length-append (filter p row) (filter p rows)
    ∙ omega (arith, row_count q (r slower) slower p (λ x. same x slower) xs, rows_count q r p xs same ps, ap (λ n. length (filter q xs) * n) one)

-- how many points of a grid lie in a region, as a product
abbrev pub grid_count : List ℕ → List ℕ → List (ℕ × ℕ) → ℕ
grid_count (first ∷ firsts) (step ∷ steps) (b ∷ bs) = axis_count first step b.0 (extent b) * grid_count firsts steps bs
grid_count _ _ _ = 1

pub length-filter_points : (firsts steps : List ℕ) (bs : List (ℕ × ℕ)) → length firsts ≡ length bs → length steps ≡ length bs → length (filter (is_on_axes firsts steps) (points bs)) ≡ grid_count firsts steps bs
length-filter_points [] [] [] f s = refl
length-filter_points [] [] (b ∷ bs) f s = absurd (omega arith)
length-filter_points [] (step ∷ steps) [] f s = absurd (omega arith)
length-filter_points [] (step ∷ steps) (b ∷ bs) f s = absurd (omega arith)
length-filter_points (first ∷ firsts) [] [] f s = absurd (omega arith)
length-filter_points (first ∷ firsts) [] (b ∷ bs) f s = absurd (omega arith)
length-filter_points (first ∷ firsts) (step ∷ steps) [] f s = absurd (omega arith)
length-filter_points (first ∷ firsts) (step ∷ steps) (b ∷ bs) f s =
    rows_count (is_on_axis first step) (is_on_axes firsts steps) (is_on_axes (first ∷ firsts) (step ∷ steps)) (range_with_len b.0 (extent b)) (λ x slower. refl) (points bs)
    ∙ ap (λ n. axis_count first step b.0 (extent b) * n) (length-filter_points firsts steps bs (omega arith) (omega arith))

-- the bounds on an axis, from the ends
pub lower_at : (bs : List (ℕ × ℕ)) (lo : List ℕ) (k x : ℕ) → k < length bs → lo ≡ lower_ends bs → x ≡ get_or lo k 0 → x ≡ (get_or bs k (0, 0)).0
lower_at bs lo k x inside ends here = here ∙ ap (λ t. get_or t k 0) ends ∙ get_or-map (λ b. b.0) bs k (0, 0) 0 inside

pub upper_at : (bs : List (ℕ × ℕ)) (hi : List ℕ) (k x : ℕ) → k < length bs → hi ≡ upper_ends bs → x ≡ get_or hi k 0 → x ≡ (get_or bs k (0, 0)).1
upper_at bs hi k x inside ends here = here ∙ ap (λ t. get_or t k 0) ends ∙ get_or-map (λ b. b.1) bs k (0, 0) 0 inside

-- no more points than the region has
pub axis_count-le : (first step a n : ℕ) → axis_count first step a n ≤ n
axis_count-le first step a n =
    omega (arith, length-filter (is_on_axis first step) (range_with_len a n), count_by-le-length (is_on_axis first step) (range_with_len a n), length-range_with_len a n)

-- the count so far stays within the limit
pub within_limit : (count n extent rest : ℕ) → n ≤ extent → count * (extent * rest) ≤ 2 ^ 40 → count * n * rest ≤ 2 ^ 40
within_limit count n extent rest few so_far =
    let grown : count * (n * rest) ≤ count * (extent * rest) = mul-le-mul_left count (mul-le-mul_right rest few) in
    omega (arith, mul_assoc count n rest)

pub within_limit_here : (count rest : ℕ) → 1 ≤ rest → count * rest ≤ 2 ^ 40 → count ≤ 2 ^ 40
within_limit_here count rest some so_far = omega (arith, mul-le-mul_left count some)

-- one axis on
pub grid_count-drop : (firsts steps : List ℕ) (bs : List (ℕ × ℕ)) (k : ℕ) (b : ℕ × ℕ) → k < length firsts → k < length steps → k < length bs → b ≡ get_or bs k (0, 0) → grid_count (drop k firsts) (drop k steps) (drop k bs) ≡ axis_count (get_or firsts k 0) (get_or steps k 0) b.0 (extent b) * grid_count (drop (k + 1) firsts) (drop (k + 1) steps) (drop (k + 1) bs)
grid_count-drop firsts steps bs k b f s h here =
    ap (λ t. grid_count t (drop k steps) (drop k bs)) (drop_more firsts k 0 f)
    ∙ ap (λ t. grid_count (get_or firsts k 0 ∷ drop (k + 1) firsts) t (drop k bs)) (drop_more steps k 0 s)
    ∙ ap (λ t. grid_count (get_or firsts k 0 ∷ drop (k + 1) firsts) (get_or steps k 0 ∷ drop (k + 1) steps) t) (drop_more bs k (0, 0) h)
    ∙ ap (λ c. axis_count (get_or firsts k 0) (get_or steps k 0) c.0 (extent c) * grid_count (drop (k + 1) firsts) (drop (k + 1) steps) (drop (k + 1) bs)) (sym here)
