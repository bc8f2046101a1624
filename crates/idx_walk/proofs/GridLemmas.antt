-- The points of a region whose coordinates are multiples of a stride on each axis.
use Rattle.std.proofs.Common.{◌≡◌, ℕ, zero, suc, ◌+◌, ◌-◌, ◌*◌, ◌/◌, ◌%◌, ◌<◌, ◌≤◌, true, false, cond, eqb, List, [], ◌∷◌, map, filter, refl, sym, ap, ◌∙◌, inl, inr, arith}
use Rattle.std.specs.List.{range_with_len, flat_map}
use Rattle.std.proofs.lemmas.Bool.{eq-eqb, ne_eqb, cases_lt}
use Rattle.std.proofs.lemmas.List.Elements.{All-head, All-tail}
use Rattle.std.proofs.lemmas.Nat.{div-add-mod', div-mul-add}
use Rattle.std.proofs.Math.Nat.{mul-le-mul_right, div-eq_of_lt, add-mul-div_right, add-mul-mod_self_right, mod-lt, mul-mod_left}
use Rattle.idx_geom.specs.Region.{points, extent}
use Rattle.idx_geom.proofs.EndsLemmas.{IsOrdered}
use Rattle.idx_lanes.specs.Axis.{on}
use Rattle.idx_walk.specs.Progression.{phase_of, count_of}
use Rattle.idx_walk.proofs.ListLemmas.{filter-map, filter-flat_map, flat_map-agree, map-agree, flat_map-cond, map-filter_and}

-- ---- one axis

-- the multiples between the bounds, in order
abbrev pub progression : ℕ → ℕ × ℕ → List ℕ
progression s b = map (λ k. (phase_of s b.0 + k) * s) (range_with_len 0 (count_of s b))

-- the first multiple is from the lower end on, and no stride above it
pub first_multiple : (s lo : ℕ) → 0 < s → (lo ≤ phase_of s lo * s) × (phase_of s lo * s < lo + s)
first_multiple s lo some =
    let split : (lo + s - 1) / s * s + (lo + s - 1) % s ≡ lo + s - 1 = div-add-mod' (lo + s - 1) s in
    let rest : (lo + s - 1) % s < s = mod-lt (lo + s - 1) some in
    (omega arith, omega arith)

-- a quotient is at most n where the number is below n + 1 times the divisor
quotient_below : (s x n : ℕ) → x < (n + 1) * s → x / s ≤ n
quotient_below s x n h =
    elim (cases_lt n (x / s)) [
      | inl more ↦
          let grown : (n + 1) * s ≤ x / s * s = mul-le-mul_right s (let le : n + 1 ≤ x / s = omega arith in le) in
          absurd (omega (arith, div-add-mod' x s))
      | inr less ↦ less
    ]

-- the quotient of what lies behind so many strides
sub-div : (s x n : ℕ) → 0 < s → n * s ≤ x → (x - n * s) / s ≡ x / s - n
sub-div s x n some le =
    let rest : x % s < s = mod-lt x some in
    let split : x / s * s + x % s ≡ x = div-add-mod' x s in
    elim (cases_lt (x / s) n) [
      | inl more ↦
          let grown : (x / s + 1) * s ≤ n * s = mul-le-mul_right s (let le' : x / s + 1 ≤ n = omega arith in le') in
          absurd (omega arith)
      | inr less ↦
          let back : x / s - n + n ≡ x / s = omega arith in
          let both : (x / s - n) * s + n * s ≡ x / s * s = omega (arith, ap (λ t. t * s) back) in
          let is : x - n * s ≡ (x / s - n) * s + x % s = omega arith in
          ap (λ t. t / s) is ∙ div-mul-add (x / s - n) s (x % s) rest
    ]

-- how many of them there are, from the first one on
count_from_first : (s : ℕ) (b : ℕ × ℕ) → 0 < s → b.0 ≤ b.1 → count_of s b ≡ (b.0 + extent b + s - 1 - phase_of s b.0 * s) / s
count_from_first s b some ordered =
    let near = first_multiple s b.0 some in
    let more : (b.1 + s) / s ≡ b.1 / s + 1 = ap (λ t. (b.1 + t) / s) (let one : s ≡ 1 * s = omega arith in one) ∙ add-mul-div_right b.1 1 some in
    let same : b.0 + extent b + s - 1 - phase_of s b.0 * s ≡ b.1 + s - phase_of s b.0 * s = omega arith in
    sym (ap (λ t. t / s) same ∙ sub-div s (b.1 + s) (phase_of s b.0) some (omega (arith, near.1)) ∙ ap (λ t. t - phase_of s b.0) more)

-- two numbers with one remainder, less than a step apart, are equal
apart : (s a f : ℕ) → a < f → f < a + s → a % s ≡ f % s → zero ≡ suc zero
apart s a f lt near same =
    elim (cases_lt (a / s) (f / s)) [
      | inl more ↦
          let le : a / s + 1 ≤ f / s = omega arith in
          omega (arith, div-add-mod' a s, div-add-mod' f s, same, mul-le-mul_right s le)
      | inr less ↦ omega (arith, div-add-mod' a s, div-add-mod' f s, same, mul-le-mul_right s less)
    ]

map-range-shift : {X : Type 0} (g : ℕ → X) (a n : ℕ) → map g (range_with_len (a + 1) n) ≡ map (λ k. g (k + 1)) (range_with_len a n)
map-range-shift g a zero = refl
map-range-shift g a (suc n) = ap (λ t. g (a + 1) ∷ t) (map-range-shift g (a + 1) n)

-- the coordinates of a row that lie on a grid are a progression
grid_row : (s a n f c : ℕ) → a ≤ f → f < a + s → c ≡ (a + n + s - 1 - f) / s → filter (λ x. eqb (x % s) (f % s)) (range_with_len a n) ≡ map (λ k. f + k * s) (range_with_len 0 c)
grid_row s a zero f c le lt e =
    let none : c ≡ 0 = e ∙ div-eq_of_lt (omega arith) in
    rw none refl
grid_row s a (suc n) f c le lt e =
    elim (cases_lt a f) [
      | inl before ↦
          let off : eqb (a % s) (f % s) ≡ false = ne_eqb _ _ (λ same. let no : zero ≡ suc zero = apart s a f before lt same in omega (arith, no)) in
          let rest : filter (λ x. eqb (x % s) (f % s)) (range_with_len (a + 1) n) ≡ map (λ k. f + k * s) (range_with_len 0 c) =
          grid_row s (a + 1) n f c (omega arith) (omega arith) (e ∙ ap (λ t. t / s) (omega arith)) in
          ap (λ b. cond b (a ∷ filter (λ x. eqb (x % s) (f % s)) (range_with_len (a + 1) n)) (filter (λ x. eqb (x % s) (f % s)) (range_with_len (a + 1) n))) off ∙ rest
      | inr at ↦
          let here : a ≡ f = omega arith in
          let on : eqb (a % s) (f % s) ≡ true = eq-eqb _ _ (ap (λ x. x % s) here) in
          let some : zero < s = omega arith in
          let same : (f + s) % s ≡ f % s = ap (λ t. (f + t) % s) (omega arith) ∙ add-mul-mod_self_right f 1 s in
          let m : ℕ = n / s in
          let more : c ≡ suc m = e ∙ ap (λ t. t / s) (omega arith) ∙ add-mul-div_right n 1 some ∙ omega arith in
          let g : ℕ → ℕ = λ k. f + k * s in
          let F : List ℕ = filter (λ x. eqb (x % s) (f % s)) (range_with_len (a + 1) n) in
          let rest : F ≡ map (λ k. f + s + k * s) (range_with_len 0 m) =
          ap (λ r. filter (λ x. eqb (x % s) r) (range_with_len (a + 1) n)) (sym same)
          ∙ grid_row s (a + 1) n (f + s) m (omega arith) (omega arith) (ap (λ t. t / s) (omega arith)) in
          let shifted : map (λ k. f + s + k * s) (range_with_len 0 m) ≡ map g (range_with_len (0 + 1) m) =
          map-agree (λ k. f + s + k * s) (λ k. g (k + 1)) (λ k. omega arith) (range_with_len 0 m) ∙ sym (map-range-shift g 0 m) in
          let head : a ≡ g 0 = omega arith in
          ap (λ b. cond b (a ∷ F) F) on
          ∙ ap (λ t. a ∷ t) (rest ∙ shifted)
          ∙ ap (λ x. x ∷ map g (range_with_len (0 + 1) m)) head
          ∙ sym (ap (λ t. map g (range_with_len 0 t)) more)
    ]

-- the coordinates between two bounds that are multiples of a stride
pub multiples : (s : ℕ) (b : ℕ × ℕ) → 0 < s → b.0 ≤ b.1 → filter (λ x. eqb (x % s) 0) (range_with_len b.0 (extent b)) ≡ progression s b
multiples s b some ordered =
    let near = first_multiple s b.0 some in
    ap (λ r. filter (λ x. eqb (x % s) r) (range_with_len b.0 (extent b))) (sym (mul-mod_left (phase_of s b.0) s))
    ∙ grid_row s b.0 (extent b) (phase_of s b.0 * s) (count_of s b) near.0 near.1 (count_from_first s b some ordered)
    ∙ map-agree (λ k. phase_of s b.0 * s + k * s) (λ k. (phase_of s b.0 + k) * s) (λ k. omega arith) (range_with_len 0 (count_of s b))

-- ---- all axes, the first of which has the number k

-- the points whose coordinates are multiples, axis by axis
abbrev pub lattice : (ℕ → ℕ) → ℕ → List (ℕ × ℕ) → List (List ℕ)
lattice s k [] = [] ∷ []
lattice s k (b ∷ bs) = flat_map (λ slower. map (λ x. x ∷ slower) (progression (s k) b)) (lattice s (k + 1) bs)

-- of a region's points these are the ones whose coordinates are multiples
pub filter-on : (s : ℕ → ℕ) → ((k : ℕ) → 0 < s k) → (k : ℕ) (bs : List (ℕ × ℕ)) → IsOrdered bs → filter (on s k) (points bs) ≡ lattice s k bs
filter-on s some k [] ordered = refl
filter-on s some k (b ∷ bs) ordered =
    let row : List ℕ → List (List ℕ) = λ slower. map (λ x. x ∷ slower) (filter (λ x. eqb (x % s k) 0) (range_with_len b.0 (extent b))) in
    let here : (slower : List ℕ) → filter (on s k) (map (λ x. x ∷ slower) (range_with_len b.0 (extent b))) ≡ cond (on s (k + 1) slower) (row slower) [] = λ slower.
    filter-map (on s k) (λ x. x ∷ slower) (range_with_len b.0 (extent b))
    ∙ map-filter_and (λ x. x ∷ slower) (on s (k + 1) slower) (λ x. eqb (x % s k) 0) (range_with_len b.0 (extent b)) in
    filter-flat_map (on s k) (λ slower. map (λ x. x ∷ slower) (range_with_len b.0 (extent b))) (points bs)
    ∙ flat_map-agree _ _ here (points bs)
    ∙ flat_map-cond (on s (k + 1)) row (points bs)
    ∙ ap (flat_map row) (filter-on s some (k + 1) bs (All-tail (λ (c : ℕ × ℕ). c.0 ≤ c.1) b bs ordered))
    ∙ flat_map-agree row (λ slower. map (λ x. x ∷ slower) (progression (s k) b))
    (λ slower. ap (map (λ x. x ∷ slower)) (multiples (s k) b (some k) (All-head (λ (c : ℕ × ℕ). c.0 ≤ c.1) b bs ordered))) (lattice s (k + 1) bs)
