-- How many multiples come before a place of a region's points, axis by axis.
use Rattle.std.proofs.Common.{◌≡◌, ℕ, zero, suc, ◌+◌, ◌-◌, ◌*◌, ◌/◌, ◌%◌, ◌^◌, ◌<◌, ◌≤◌, Bool, true, false, cond, ◌&&◌, eqb, List, [], ◌∷◌, ◌++◌, length, map, filter, take, drop, get_or, Some, refl, sym, ap, ◌∙◌, subst, inl, inr, arith, append_assoc, length-append}
use Rattle.std.specs.Prelude.{min}
use Rattle.std.specs.List.{flat_map, range_with_len, slice_get}
use Rattle.std.proofs.lemmas.Bool.{cases_lt}
use Rattle.std.proofs.lemmas.List.{length-map}
use Rattle.std.proofs.lemmas.List.Elements.{filter-append}
use Rattle.std.proofs.lemmas.List.FromFn.{length-map-range_with_len}
use Rattle.std.proofs.lemmas.Nat.{div-add-mod', div-mul-add, mod-mul-add}
use Rattle.std.proofs.lemmas.List.{take-append-le}
use Rattle.std.proofs.lemmas.List.FromFn.{take-map-range_with_len}
use Rattle.std.proofs.lemmas.Nat.{div_below, le-div, pow_pos}
use Rattle.std.proofs.Math.Nat.{add-mul-div_right, div-mul-le_self, mod-eq_of_lt, mod-lt, mul-le-mul_right, mul_comm}
use Rattle.std.proofs.Math.Seq.{take-append-add, take-length, take-suc}
use Rattle.std.proofs.lemmas.Option.{get_or_from_slice_get}
use Rattle.idx_geom.specs.Region.{extent, points, point_of}
use Rattle.idx_geom.proofs.PointsLemmas.{length-points, size, slice_get-points}
use Rattle.idx_layout.proofs.ListLemmas.{count-le}
use Rattle.idx_walk.proofs.GridLemmas.{multiples}
use Rattle.idx_walk.proofs.ListLemmas.{filter-map, map-filter_and}
use Rattle.idx_lanes.specs.Axis.{on}
use Rattle.idx_walk.specs.Progression.{count_of}
use Rattle.idx_scatter.specs.declared.side.Earlier.{Earlier}
use Rattle.idx_scatter.specs.declared.side.Side.{Side}
use Rattle.idx_scatter.specs.Sides.{AreSides, IsBefore, IsSane, IsSide, count_before, in_row, multiples_in}

-- ---- one axis

pub div-mono : (s x y : ℕ) → 0 < s → x ≤ y → x / s ≤ y / s
div-mono s x y some le = le-div (x / s) y s some (omega (arith, div-mul-le_self x s, le))

-- a quotient rounded up
pub ceil-is : (x s : ℕ) → 0 < s → x / s + min 1 (x % s) ≡ (x + s - 1) / s
ceil-is x s some =
    let parts : x / s * s + x % s ≡ x = div-add-mod' x s in
    elim (cases_lt (x % s) 1) [
      | inl none ↦
          let at : x + s - 1 ≡ x / s * s + (s - 1) = omega (arith, parts, none, some) in
          let small : s - 1 < s = omega (arith, some) in
          omega (arith, none, ap (λ t. t / s) at ∙ div-mul-add (x / s) s (s - 1) small)
      | inr rest ↦
          let more : (x / s + 1) * s ≡ x / s * s + s = grind arith in
          let at : x + s - 1 ≡ (x / s + 1) * s + (x % s - 1) = omega (arith, parts, rest, more) in
          let small : x % s - 1 < s = omega (arith, mod-lt x some) in
          omega (arith, rest, ap (λ t. t / s) at ∙ div-mul-add (x / s + 1) s (x % s - 1) small)
    ]

-- the number of multiples is that of the list
pub multiples-count : (s lo n : ℕ) → 0 < s → length (filter (λ x. eqb (x % s) 0) (range_with_len lo n)) ≡ multiples_in s lo n
multiples-count s lo zero some =
    let same : lo + zero + s - 1 ≡ lo + s - 1 = omega arith in
    omega (arith, ap (λ t. t / s) same)
multiples-count s lo (suc n) some =
    let b : ℕ × ℕ = (lo, lo + n) in
    let all : extent b ≡ suc n = omega arith in
    let more : (lo + suc n + s - 1) / s ≡ (lo + n) / s + 1 =
    ap (λ t. t / s) (let is : lo + suc n + s - 1 ≡ lo + n + 1 * s = omega arith in is) ∙ add-mul-div_right (lo + n) 1 some in
    ap (λ k. length (filter (λ x. eqb (x % s) 0) (range_with_len lo k))) (sym all)
    ∙ ap length (multiples s b some (omega arith))
    ∙ length-map-range_with_len _ 0 (count_of s b)
    ∙ ap (λ t. t - (lo + s - 1) / s) (sym more)

-- the first so many of more than that
pub multiples-le : (s lo n m : ℕ) → 0 < s → n ≤ m → multiples_in s lo n ≤ multiples_in s lo m
multiples-le s lo n m some le =
    let less : lo + n + s - 1 ≤ lo + m + s - 1 = omega (arith, le) in
    omega (arith, div-mono s (lo + n + s - 1) (lo + m + s - 1) some less)

-- no more than there are numbers
pub multiples-few : (s lo n : ℕ) → 0 < s → multiples_in s lo n ≤ n
multiples-few s lo n some = omega (arith, sym (multiples-count s lo n some), count-le (λ x. eqb (x % s) 0) lo n)

-- a whole number of strides further on
pub multiples-on : (s lo i j step : ℕ) → 0 < s → step % s ≡ 0 → multiples_in s lo (i + j * step) ≡ multiples_in s lo i + j * (step / s)
multiples-on s lo i j step some whole =
    let parts : step / s * s + step % s ≡ step = div-add-mod' step s in
    let is : step ≡ step / s * s = omega (arith, parts, whole) in
    let far : j * step ≡ j * (step / s) * s = ap (λ t. j * t) is ∙ grind arith in
    let at : lo + (i + j * step) + s - 1 ≡ lo + i + s - 1 + j * (step / s) * s = omega (arith, far, some) in
    let more : (lo + (i + j * step) + s - 1) / s ≡ (lo + i + s - 1) / s + j * (step / s) =
    ap (λ t. t / s) at ∙ add-mul-div_right (lo + i + s - 1) (j * (step / s)) some in
    let less : lo + s - 1 ≤ lo + i + s - 1 = omega arith in
    omega (arith, more, div-mono s (lo + s - 1) (lo + i + s - 1) some less)

-- the multiples from 0 on below a place of a side
pub shifted : (side : Side) (n : ℕ) → IsSane side → (side.lo + n + (side.stride - 1)) / 2 ^ side.shift ≡ (side.lo + n + side.stride - 1) / side.stride
shifted side n sane =
    let some = sane.paced in
    let same : side.lo + n + (side.stride - 1) ≡ side.lo + n + side.stride - 1 = omega arith in
    λ i. same i / sym sane.power i

-- ---- rows

-- the first rows, and a part of the next one
take-rows : {X Y : Type 0} (f : X → List Y) (e : ℕ) → ((x : X) → length (f x) ≡ e) → (xs : List X) (r i : ℕ) (x : X) → slice_get xs r ≡ Some x → i ≤ e →
    take (r * e + i) (flat_map f xs) ≡ flat_map f (take r xs) ++ take i (f x)
take-rows f e long [] r i x at le = cc
take-rows {X = X} f e long (y ∷ ys) zero i x at le =
    let same : y ≡ x = cc in
    let none : zero * e + i ≡ i = omega arith in
    ap (λ n. take n (f y ++ flat_map f ys)) none
    ∙ take-append-le i (f y) (flat_map f ys) (omega (arith, le, long y))
    ∙ ap (λ z. take i (f z)) same
take-rows f e long (y ∷ ys) (suc r) i x at le =
    let more : suc r * e + i ≡ length (f y) + (r * e + i) = omega (arith, long y, (let step : suc r * e ≡ e + r * e = grind arith in step)) in
    ap (λ n. take n (f y ++ flat_map f ys)) more
    ∙ take-append-add (f y) (flat_map f ys) (r * e + i)
    ∙ ap (λ t. f y ++ t) (take-rows f e long ys r i x at le)
    ∙ sym (append_assoc (f y) (flat_map f (take r ys)) (take i (f x)))

-- the row of a point of the slower axes
abbrev row_of : ℕ × ℕ → List ℕ → List (List ℕ)
row_of b slower = map (λ x. x ∷ slower) (range_with_len b.0 (extent b))

length-row_of : (b : ℕ × ℕ) (slower : List ℕ) → length (row_of b slower) ≡ extent b
length-row_of b slower = length-map-range_with_len (λ x. x ∷ slower) b.0 (extent b)

-- how many of the first places of a row are multiples
row-count : (s : ℕ → ℕ) (k : ℕ) (b : ℕ × ℕ) (slower : List ℕ) (n : ℕ) → 0 < s k → n ≤ extent b →
    length (filter (on s k) (take n (row_of b slower))) ≡ cond (on s (k + 1) slower) (multiples_in (s k) b.0 n) 0
row-count s k b slower n some le =
    ap (λ t. length (filter (on s k) t)) (take-map-range_with_len (λ x. x ∷ slower) b.0 (extent b) n le)
    ∙ ap length (filter-map (on s k) (λ x. x ∷ slower) (range_with_len b.0 n) ∙ map-filter_and (λ x. x ∷ slower) (on s (k + 1) slower) (λ x. eqb (x % s k) 0) (range_with_len b.0 n))
    ∙ by_test (on s (k + 1) slower)
  where
    by_test : (t : Bool) → length (cond t (map (λ x. x ∷ slower) (filter (λ x. eqb (x % s k) 0) (range_with_len b.0 n))) []) ≡ cond t (multiples_in (s k) b.0 n) 0
    by_test true = length-map (filter (λ x. eqb (x % s k) 0) (range_with_len b.0 n)) (λ x. x ∷ slower) ∙ multiples-count (s k) b.0 n some
    by_test false = refl

-- and of whole rows
rows-count : (s : ℕ → ℕ) (k : ℕ) (b : ℕ × ℕ) (ps : List (List ℕ)) → 0 < s k →
    length (filter (on s k) (flat_map (row_of b) ps)) ≡ multiples_in (s k) b.0 (extent b) * length (filter (on s (k + 1)) ps)
rows-count s k b [] some = omega arith
rows-count s k b (p ∷ ps) some =
    let all : length (filter (on s k) (take (extent b) (row_of b p))) ≡ cond (on s (k + 1) p) (multiples_in (s k) b.0 (extent b)) 0 = row-count s k b p (extent b) some (omega arith) in
    let whole : take (extent b) (row_of b p) ≡ row_of b p = ap (λ n. take n (row_of b p)) (sym (length-row_of b p)) ∙ take-length (row_of b p) in
    let here : length (filter (on s k) (row_of b p)) ≡ cond (on s (k + 1) p) (multiples_in (s k) b.0 (extent b)) 0 = ap (λ t. length (filter (on s k) t)) (sym whole) ∙ all in
    ap length (filter-append (on s k) (row_of b p) (flat_map (row_of b) ps))
    ∙ length-append (filter (on s k) (row_of b p)) (filter (on s k) (flat_map (row_of b) ps))
    ∙ ap (λ n. n + length (filter (on s k) (flat_map (row_of b) ps))) here
    ∙ ap (λ n. cond (on s (k + 1) p) (multiples_in (s k) b.0 (extent b)) 0 + n) (rows-count s k b ps some)
    ∙ by_test (on s (k + 1) p)
  where
    by_test : (t : Bool) →
        cond t (multiples_in (s k) b.0 (extent b)) 0 + multiples_in (s k) b.0 (extent b) * length (filter (on s (k + 1)) ps) ≡ multiples_in (s k) b.0 (extent b) * length
        (cond t (p ∷ filter (on s (k + 1)) ps) (filter (on s (k + 1)) ps))
    by_test true = grind arith
    by_test false = omega arith

-- before a place of a row come the multiples of the rows before it, and of the places before it in the row
pub count-step : (s : ℕ → ℕ) (k : ℕ) (b : ℕ × ℕ) (bs : List (ℕ × ℕ)) (r i : ℕ) → 0 < s k → r < length (points bs) → i ≤ extent b →
    count_before s k (b ∷ bs) (r * extent b + i) ≡ multiples_in (s k) b.0 (extent b) * count_before s (k + 1) bs r + cond (on s (k + 1) (point_of bs r)) (multiples_in (s k) b.0 i) 0
count-step s k b bs r i some within le =
    let at : slice_get (points bs) r ≡ Some (point_of bs r) = slice_get-points bs r (omega (arith, within, length-points bs)) in
    let rows : List (List ℕ) = flat_map (row_of b) (take r (points bs)) in
    let part : List (List ℕ) = take i (row_of b (point_of bs r)) in
    ap (λ t. length (filter (on s k) t)) (take-rows (row_of b) (extent b) (length-row_of b) (points bs) r i (point_of bs r) at le)
    ∙ ap length (filter-append (on s k) rows part)
    ∙ length-append (filter (on s k) rows) (filter (on s k) part)
    ∙ (λ j. rows-count s k b (take r (points bs)) some j + row-count s k b (point_of bs r) i some le j)

-- up to a place come those before it, and the point there, where it is one
count-more : (s : ℕ → ℕ) (k : ℕ) (bs : List (ℕ × ℕ)) (place : ℕ) → place < length (points bs) →
    count_before s k bs (place + 1) ≡ count_before s k bs place + cond (on s k (point_of bs place)) 1 0
count-more s k bs place within =
    let at : get_or (points bs) place [] ≡ point_of bs place = get_or_from_slice_get (points bs) place (point_of bs place) [] (slice_get-points bs place (omega (arith, within, length-points bs))) in
    let next : place + 1 ≡ suc place = omega arith in
    ap (λ n. length (filter (on s k) (take n (points bs)))) next
    ∙ ap (λ t. length (filter (on s k) t)) (take-suc (points bs) place [] within)
    ∙ ap (λ p. length (filter (on s k) (take place (points bs) ++ (p ∷ [])))) at
    ∙ ap length (filter-append (on s k) (take place (points bs)) (point_of bs place ∷ []))
    ∙ length-append (filter (on s k) (take place (points bs))) (filter (on s k) (point_of bs place ∷ []))
    ∙ ap (λ n. count_before s k bs place + n) (by_test (on s k (point_of bs place)))
  where
    by_test : (t : Bool) → length (cond t (point_of bs place ∷ []) []) ≡ cond t 1 0
    by_test true = refl
    by_test false = refl

pub count-with : (s : ℕ → ℕ) (k : ℕ) (bs : List (ℕ × ℕ)) (place : ℕ) → place < length (points bs) → on s k (point_of bs place) ≡ true → count_before s k bs (place + 1) ≡ count_before s k bs place + 1
count-with s k bs place within is = count-more s k bs place within ∙ ap (λ t. count_before s k bs place + cond t 1 0) is

pub count-without : (s : ℕ → ℕ) (k : ℕ) (bs : List (ℕ × ℕ)) (place : ℕ) → place < length (points bs) → on s k (point_of bs place) ≡ false → count_before s k bs (place + 1) ≡ count_before s k bs place
count-without s k bs place within is = count-more s k bs place within ∙ ap (λ t. count_before s k bs place + cond t 1 0) is ∙ omega arith

-- ---- by the sides

-- no axis
pub before-none : (s : ℕ → ℕ) (k : ℕ) (bs : List (ℕ × ℕ)) (place : ℕ) → AreSides s k bs [] → place < length (points bs) → IsBefore s k bs place 0 true
before-none s k [] place are within =
    let first : place ≡ 0 = omega (arith, within) in
    record { count = sym (ap (λ n. length (filter (on s k) (take n ([] ∷ [])))) first); lies = refl }
before-none s k (b ∷ bs) place are within = absurd are

-- one axis more: before a place of a row come the multiples of the rows before it, and those before it in the row
pub before-one : (s : ℕ → ℕ) (k : ℕ) (b : ℕ × ℕ) (bs : List (ℕ × ℕ)) (side : Side) (place : ℕ) (rows : Earlier) → IsSide (s k) b side → place < length (points (b ∷ bs)) →
    IsBefore s (k + 1) bs (place / side.extent) rows.count rows.lies →
    IsBefore s k (b ∷ bs) place (in_row side rows (place % side.extent)).count (in_row side rows (place % side.extent)).lies
before-one s k b bs side place rows is within below = by_test rows.lies refl
  where
    e : ℕ
    e = extent b

    some : 1 ≤ e
    some = omega (arith, is.sane.some, is.wide)

    stride_some : 0 < s k
    stride_some = omega (arith, is.sane.paced, is.stride)

    quotient : place / side.extent ≡ place / e
    quotient = ap (λ n. place / n) is.wide

    rest : place % side.extent ≡ place % e
    rest = ap (λ n. place % n) is.wide

    parts : place ≡ place / e * e + place % e
    parts = sym (div-add-mod' place e)

    small : place % e < e
    small = mod-lt place some

    fewer : place / e < length (points bs)
    fewer = omega (arith, length-points bs, div_below place e (size bs) some (omega (arith, within, length-points (b ∷ bs), mul_comm (size bs) e)))

    step : count_before s k (b ∷ bs) place ≡ multiples_in (s k) b.0 e * count_before s (k + 1) bs (place / e) + cond (on s (k + 1) (point_of bs (place / e))) (multiples_in (s k) b.0 (place % e)) 0
    step = ap (count_before s k (b ∷ bs)) parts ∙ count-step s k b bs (place / e) (place % e) stride_some fewer (omega (arith, small))

    all : side.whole * rows.count ≡ multiples_in (s k) b.0 e * count_before s (k + 1) bs (place / e)
    all = (λ j. is.whole j * (below.count ∙ ap (count_before s (k + 1) bs) quotient) j)

    lies_is : rows.lies ≡ on s (k + 1) (point_of bs (place / e))
    lies_is = below.lies ∙ ap (λ n. on s (k + 1) (point_of bs n)) quotient

    here : multiples_in side.stride side.lo (place % side.extent) ≡ multiples_in (s k) b.0 (place % e)
    here = (λ j. multiples_in (is.stride j) (is.lo j) (rest j))

    tested : eqb ((side.lo + place % side.extent) % side.stride) 0 ≡ eqb ((b.0 + place % e) % s k) 0
    tested = (λ j. eqb ((is.lo j + rest j) % is.stride j) 0)

    by_test : (t : Bool) → rows.lies ≡ t → IsBefore s k (b ∷ bs) place (in_row side rows (place % side.extent)).count (in_row side rows (place % side.extent)).lies
    by_test true stands =
        let on_is : on s (k + 1) (point_of bs (place / e)) ≡ true = sym lies_is ∙ stands in
        record {
          count =
              ap (λ (t : Bool). (cond {A = Earlier} t
              (record { count = side.whole * rows.count + multiples_in side.stride side.lo (place % side.extent); lies = eqb ((side.lo + place % side.extent) % side.stride) 0 })
              (record { count = side.whole * rows.count; lies = false })).count) stands
              ∙ (λ j. all j + here j)
              ∙ sym (step ∙ ap (λ (t : Bool). multiples_in (s k) b.0 e * count_before s (k + 1) bs (place / e) + cond t (multiples_in (s k) b.0 (place % e)) 0) on_is);
          lies =
              ap (λ (t : Bool). (cond {A = Earlier} t
              (record { count = side.whole * rows.count + multiples_in side.stride side.lo (place % side.extent); lies = eqb ((side.lo + place % side.extent) % side.stride) 0 })
              (record { count = side.whole * rows.count; lies = false })).lies) stands
              ∙ tested
              ∙ sym (ap (λ (t : Bool). t && eqb ((b.0 + place % e) % s k) 0) on_is);
        }
    by_test false apart =
        let off : on s (k + 1) (point_of bs (place / e)) ≡ false = sym lies_is ∙ apart in
        let none : multiples_in (s k) b.0 e * count_before s (k + 1) bs (place / e) ≡ multiples_in (s k) b.0 e * count_before s (k + 1) bs (place / e) + 0 = omega arith in
        record {
          count =
              ap (λ (t : Bool). (cond {A = Earlier} t
              (record { count = side.whole * rows.count + multiples_in side.stride side.lo (place % side.extent); lies = eqb ((side.lo + place % side.extent) % side.stride) 0 })
              (record { count = side.whole * rows.count; lies = false })).count) apart
              ∙ all ∙ none
              ∙ sym (step ∙ ap (λ (t : Bool). multiples_in (s k) b.0 e * count_before s (k + 1) bs (place / e) + cond t (multiples_in (s k) b.0 (place % e)) 0) off);
          lies =
              ap (λ (t : Bool). (cond {A = Earlier} t
              (record { count = side.whole * rows.count + multiples_in side.stride side.lo (place % side.extent); lies = eqb ((side.lo + place % side.extent) % side.stride) 0 })
              (record { count = side.whole * rows.count; lies = false })).lies) apart
              ∙ sym (ap (λ (t : Bool). t && eqb ((b.0 + place % e) % s k) 0) off);
        }

pub before-some : (s : ℕ → ℕ) (k : ℕ) (bs : List (ℕ × ℕ)) (side : Side) (slower : List Side) (place : ℕ) (rows : Earlier) → AreSides s k bs (side ∷ slower) → place < length (points bs) →
    ((s : ℕ → ℕ) (k : ℕ) (bs : List (ℕ × ℕ)) → AreSides s k bs slower → place / side.extent < length (points bs) → IsBefore s k bs (place / side.extent) rows.count rows.lies) →
    IsBefore s k bs place (in_row side rows (place % side.extent)).count (in_row side rows (place % side.extent)).lies
before-some s k [] side slower place rows are within given = absurd are
before-some s k (b ∷ bs) side slower place rows are within given =
    let some : 1 ≤ side.extent = are.0.sane.some in
    let wide : size bs * side.extent ≡ extent b * size bs = ap (λ n. size bs * n) are.0.wide ∙ mul_comm (size bs) (extent b) in
    let fewer : place / side.extent < length (points bs) = omega (arith, length-points bs, div_below place side.extent (size bs) some (omega (arith, within, length-points (b ∷ bs), wide))) in
    before-one s k b bs side place rows are.0 within (given s (k + 1) bs are.1 fewer)

-- the same by the row
pub before-row : (s : ℕ → ℕ) (k : ℕ) (b : ℕ × ℕ) (bs : List (ℕ × ℕ)) (side : Side) (rows : Earlier) (r here : ℕ) → IsSide (s k) b side → IsBefore s (suc k) bs r rows.count rows.lies →
    r < length (points bs) → here < extent b → IsBefore s k (b ∷ bs) (r * extent b + here) (in_row side rows here).count (in_row side rows here).lies
before-row s k b bs side rows r here is below within small =
    let place : ℕ = r * side.extent + here in
    let fits : here < side.extent = omega (arith, small, is.wide) in
    let next : suc k ≡ k + 1 = omega arith in
    let row : r ≡ place / side.extent = sym (div-mul-add r side.extent here fits) in
    let rest : place % side.extent ≡ here = mod-mul-add r side.extent here fits in
    let same : place ≡ r * extent b + here = ap (λ n. r * n + here) is.wide in
    let le : r + 1 ≤ size bs = omega (arith, within, length-points bs) in
    let more : (r + 1) * extent b ≡ r * extent b + extent b = grind arith in
    let room : place < length (points (b ∷ bs)) = omega (arith, same, small, length-points (b ∷ bs), mul-le-mul_right (extent b) le, more, mul_comm (size bs) (extent b)) in
    subst (λ (n : ℕ). IsBefore s k (b ∷ bs) n (in_row side rows here).count (in_row side rows here).lies) same
    (subst (λ (n : ℕ). IsBefore s k (b ∷ bs) place (in_row side rows n).count (in_row side rows n).lies) rest
    (before-one s k b bs side place rows is room
    (subst (λ (n : ℕ). IsBefore s n bs (place / side.extent) rows.count rows.lies) next (subst (λ (n : ℕ). IsBefore s (suc k) bs n rows.count rows.lies) row below))))

-- a row that lies on no strides
pub off-row : (side : Side) (rows : Earlier) (here : ℕ) → rows.lies ≡ false → ((in_row side rows here).count ≡ side.whole * rows.count) × ((in_row side rows here).lies ≡ false)
off-row side rows here apart = (
  ap (λ (t : Bool). (cond {A = Earlier} t (record { count = side.whole * rows.count + multiples_in side.stride side.lo here; lies = eqb ((side.lo + here) % side.stride) 0 })
      (record { count = side.whole * rows.count; lies = false })).count) apart,
  ap (λ (t : Bool). (cond {A = Earlier} t (record { count = side.whole * rows.count + multiples_in side.stride side.lo here; lies = eqb ((side.lo + here) % side.stride) 0 })
      (record { count = side.whole * rows.count; lies = false })).lies) apart,
)

-- where none comes before a row, and it lies on no strides, none comes before its places
pub in_row-none : (side : Side) (rows : Earlier) (here : ℕ) → rows.count ≡ 0 → rows.lies ≡ false → ((in_row side rows here).count ≡ 0) × ((in_row side rows here).lies ≡ false)
in_row-none side rows here none apart =
    let is = off-row side rows here apart in
    (omega (arith, is.0, ap (λ n. side.whole * n) none), is.1)

-- ---- along a row

-- a number of whole strides
pub whole-steps : (step s shift : ℕ) → s ≡ 2 ^ shift → step / 2 ^ shift * 2 ^ shift % 2 ^ 64 ≡ step → 0 < s → step % s ≡ 0
whole-steps step s shift power is some =
    let small : step < 2 ^ 64 = omega (arith, is, mod-lt (step / 2 ^ shift * 2 ^ shift) (pow_pos 64)) in
    let less : step / s * s ≤ step = div-mul-le_self step s in
    let same : step / s * s ≡ step / 2 ^ shift * 2 ^ shift = λ i. step / power i * power i in
    let within : step / 2 ^ shift * 2 ^ shift < 2 ^ 64 = omega (arith, small, less, same) in
    omega (arith, div-add-mod' step s, same, is, mod-eq_of_lt within)

-- ---- the first side, and the others

abbrev pub no_side : Side
no_side = record { lo = 0; extent = 0; stride = 0; whole = 0; shift = 0; below = 0 }

abbrev pub first_of : List Side → Side
first_of sides = get_or sides 0 no_side

abbrev pub rest_of : List Side → List Side
rest_of sides = take (length sides - 1) (drop 1 sides)

pub sides-are : (sides : List Side) → 1 ≤ length sides → first_of sides ∷ rest_of sides ≡ sides
sides-are [] some = absurd (omega arith)
sides-are (side ∷ sides) some =
    let count : length (side ∷ sides) - 1 ≡ length sides = omega arith in
    ap (λ n. side ∷ take n sides) count ∙ ap (λ t. side ∷ t) (take-length sides)

pub no_side-is : (sides : List Side) → length sides < 1 → [] ≡ sides
no_side-is [] few = refl
no_side-is (side ∷ sides) few = absurd (omega arith)

-- what comes before a place is no more than the place
pub in_row-few : (side : Side) (rows : Earlier) (place : ℕ) → IsSane side → rows.count ≤ place / side.extent → (in_row side rows (place % side.extent)).count ≤ place
in_row-few side rows place sane few = by_test rows.lies refl
  where
    here : ℕ
    here = place % side.extent

    parts : place / side.extent * side.extent + here ≡ place
    parts = div-add-mod' place side.extent

    all : side.whole * rows.count ≤ place / side.extent * side.extent
    all = omega (arith, mul-le-mul_right rows.count sane.whole, mul-le-mul_right side.extent few, mul_comm side.extent rows.count)

    by_test : (t : Bool) → rows.lies ≡ t → (in_row side rows here).count ≤ place
    by_test true stands =
        let is : (in_row side rows here).count ≡ side.whole * rows.count + multiples_in side.stride side.lo here =
        ap (λ (t : Bool). (cond {A = Earlier} t (record { count = side.whole * rows.count + multiples_in side.stride side.lo here; lies = eqb ((side.lo + here) % side.stride) 0 })
        (record { count = side.whole * rows.count; lies = false })).count) stands in
        omega (arith, is, all, parts, multiples-few side.stride side.lo here sane.paced)
    by_test false apart =
        let is : (in_row side rows here).count ≡ side.whole * rows.count =
        ap (λ (t : Bool). (cond {A = Earlier} t (record { count = side.whole * rows.count + multiples_in side.stride side.lo here; lies = eqb ((side.lo + here) % side.stride) 0 })
        (record { count = side.whole * rows.count; lies = false })).count) apart in
        omega (arith, is, all, parts)

-- the sides of a region with an axis
pub more-by_sides : (s : ℕ → ℕ) (k : ℕ) (b : ℕ × ℕ) (bs : List (ℕ × ℕ)) (sides : List Side) → AreSides s k (b ∷ bs) sides → IsSide (s k) b (first_of sides) × AreSides s (k + 1) bs (rest_of sides)
more-by_sides s k b bs [] are = absurd are
more-by_sides s k b bs (side ∷ sides) are =
    let count : length (side ∷ sides) - 1 ≡ length sides = omega arith in
    let rest : take (length (side ∷ sides) - 1) sides ≡ sides = ap (λ n. take n sides) count ∙ take-length sides in
    (are.0, subst (λ (t : List Side). AreSides s (k + 1) bs t) (sym rest) are.1)
