-- How many points that are asked for come before a place: those on the strides of the finest level, without those on the
-- strides of the levels before the coarsest one.
use Rattle.std.proofs.Common.{◌≡◌, ℕ, zero, suc, ◌+◌, ◌-◌, ◌*◌, ◌^◌, ◌<◌, ◌≤◌, Bool, true, false, cond, ◌&&◌, leb, List, [], ◌∷◌, length, filter, take, get_or, refl, sym, ap, ◌∙◌, subst, inl, inr, arith}
use Rattle.std.specs.Prelude.{All}
use Rattle.std.proofs.lemmas.Bool.{cases_lt}
use Rattle.std.proofs.lemmas.Bool.Decides.{nat_tests}
use Rattle.std.specs.Int.Count.{count_trailing_zeros}
use Rattle.idx_lanes.specs.Axis.{on}
use Rattle.idx_hz.proofs.ShiftLemmas.{count_trailing_zeros-in_word}
use Rattle.std.proofs.lemmas.List.Elements.{All-cons, All-nil, All-take}
use Rattle.std.proofs.Math.Nat.{pow-le-pow_right}
use Rattle.std.proofs.Math.Seq.{take-length}
use Rattle.idx_geom.specs.Region.{LiesIn, points}
use Rattle.idx_geom.proofs.LiesInLemmas.{length_from_LiesIn}
use Rattle.idx_hz.specs.Mask.{NamesAxes}
use Rattle.idx_hz.specs.Address.{level}
use Rattle.idx_hz.specs.Answer.{has_level}
use Rattle.idx_hz.specs.Stride.{stride}
use Rattle.idx_walk.proofs.LevelTests.{level-test}
use Rattle.idx_walk.proofs.ListLemmas.{filter-agree_on}
use Rattle.idx_walk.proofs.WalkLemmas.{All-points}
use Rattle.idx_scatter.specs.declared.side.Side.{Side}
use Rattle.idx_scatter.specs.Asked.{Asked, asked_before, asked_points}
use Rattle.idx_scatter.specs.Sides.{AreSides, IsSane, IsSide, count_before}
use Rattle.idx_scatter.proofs.SideLemmas.{no_side}

-- ---- sides

pub all-sane : (s : ℕ → ℕ) (k : ℕ) (bs : List (ℕ × ℕ)) (sides : List Side) → AreSides s k bs sides → All IsSane sides
all-sane s k [] [] are = All-nil IsSane
all-sane s k [] (side ∷ sides) are = absurd are
all-sane s k (b ∷ bs) [] are = absurd are
all-sane s k (b ∷ bs) (side ∷ sides) are = All-cons IsSane side sides are.0.sane (all-sane s (k + 1) bs sides are.1)

pub sides-from : (s : ℕ → ℕ) (k : ℕ) (bs : List (ℕ × ℕ)) (sides : List Side) → length sides ≡ length bs →
    ((a : ℕ) → a < length bs → IsSide (s (k + a)) (get_or bs a (0, 0)) (get_or sides a no_side)) → AreSides s k bs sides
sides-from s k [] [] long each = tt
sides-from s k [] (side ∷ sides) long each = absurd (omega (arith, long))
sides-from s k (b ∷ bs) [] long each = absurd (omega (arith, long))
sides-from s k (b ∷ bs) (side ∷ sides) long each =
    let first : k + 0 ≡ k = omega arith in (
      subst (λ (n : ℕ). IsSide (s n) b side) first (each 0 (omega arith)),
      sides-from s (k + 1) bs sides (omega (arith, long)) (λ a within.
          let next : k + suc a ≡ k + 1 + a = omega arith in
          subst (λ (n : ℕ). IsSide (s n) (get_or bs a (0, 0)) (get_or sides a no_side)) next (each (suc a) (omega (arith, within)))),
    )

-- the side of each axis
pub sides-at : (s : ℕ → ℕ) (k : ℕ) (bs : List (ℕ × ℕ)) (sides : List Side) → AreSides s k bs sides → (a : ℕ) → a < length bs → IsSide (s (k + a)) (get_or bs a (0, 0)) (get_or sides a no_side)
sides-at s k [] sides are a within = absurd (omega (arith, within))
sides-at s k (b ∷ bs) [] are a within = absurd are
sides-at s k (b ∷ bs) (side ∷ sides) are zero within =
    let first : k ≡ k + 0 = omega arith in
    subst (λ (n : ℕ). IsSide (s n) b side) first are.0
sides-at s k (b ∷ bs) (side ∷ sides) are (suc a) within =
    let next : k + 1 + a ≡ k + suc a = omega arith in
    subst (λ (n : ℕ). IsSide (s n) (get_or bs a (0, 0)) (get_or sides a no_side)) next (sides-at s (k + 1) bs sides are.1 a (omega (arith, within)))

-- the zeros that a power of two ends with
pub trailing-power : (n bits : ℕ) → n ≡ 2 ^ bits → n ≤ 2 ^ 40 → (count_trailing_zeros 64 n ≡ bits) × (bits ≤ 40)
trailing-power n bits is small =
    let few : bits ≤ 40 = elim (cases_lt 40 bits) [
      | inl more ↦
          let up : 2 ^ 41 ≤ 2 ^ bits = pow-le-pow_right {n = 2} (omega arith) {i = 41} {j = bits} (omega (arith, more)) in
          absurd (omega (arith, up, is, small))
      | inr le ↦ le
    ] in
    let one : (2 * 0 + 1) * 2 ^ bits ≡ 2 ^ bits = omega arith in
    (ap (count_trailing_zeros 64) (is ∙ sym one) ∙ count_trailing_zeros-in_word 64 bits 0 (omega (arith, few)), few)

-- ---- levels

-- those of the levels lo to hi, and those of the levels before
split-levels : {X : Type 0} (n : X → ℕ) (lo hi : ℕ) → 1 ≤ lo → lo ≤ hi → (xs : List X) →
    length (filter (λ x. leb lo (n x) && leb (n x) hi) xs) + length (filter (λ x. leb (n x) (lo - 1)) xs) ≡ length (filter (λ x. leb (n x) hi) xs)
split-levels n lo hi some le [] = refl
split-levels n lo hi some le (x ∷ xs) = by_test (split-levels n lo hi some le xs) (leb lo (n x) && leb (n x) hi) (leb (n x) (lo - 1)) (leb (n x) hi) (one (n x))
  where
    one : (m : ℕ) → cond (leb lo m && leb m hi) 1 0 + cond (leb m (lo - 1)) 1 0 ≡ cond (leb m hi) 1 0
    one m = grind (arith, nat_tests)

    by_test : length (filter (λ x. leb lo (n x) && leb (n x) hi) xs) + length (filter (λ x. leb (n x) (lo - 1)) xs) ≡ length (filter (λ x. leb (n x) hi) xs) → (h c f : Bool) →
        cond h 1 0 + cond c 1 0 ≡ cond f 1 0 →
        length (cond h (x ∷ filter (λ x. leb lo (n x) && leb (n x) hi) xs) (filter (λ x. leb lo (n x) && leb (n x) hi) xs))
        + length (cond c (x ∷ filter (λ x. leb (n x) (lo - 1)) xs) (filter (λ x. leb (n x) (lo - 1)) xs))
        ≡ length (cond f (x ∷ filter (λ x. leb (n x) hi) xs) (filter (λ x. leb (n x) hi) xs))
    by_test rest true true true e = absurd (omega (arith, e))
    by_test rest true true false e = absurd (omega (arith, e))
    by_test rest true false true e = omega (arith, rest)
    by_test rest true false false e = absurd (omega (arith, e))
    by_test rest false true true e = omega (arith, rest)
    by_test rest false true false e = absurd (omega (arith, e))
    by_test rest false false true e = absurd (omega (arith, e))
    by_test rest false false false e = rest

-- the points on the strides of a level that come before a place are those of the levels up to it
count-levels : (mask : List ℕ) (region : List (ℕ × ℕ)) (h place : ℕ) → NamesAxes mask (length region) →
    count_before (stride mask h) 0 region place ≡ length (filter (λ p. leb (level mask p) h) (take place (points region)))
count-levels mask region h place named =
    ap length (sym (filter-agree_on (LiesIn region) (λ p. leb (level mask p) h) (on (stride mask h) 0)
    (λ p inside. level-test mask p h (subst (NamesAxes mask) (sym (length_from_LiesIn region p inside)) named))
    (take place (points region)) (All-take (LiesIn region) place (points region) (All-points region))))

-- where all levels from 0 on are asked for
pub before-fine : (a : Asked) (place : ℕ) → NamesAxes a.mask (length a.region) → a.lo ≡ 0 → asked_before a place ≡ count_before (stride a.mask a.hi) 0 a.region place
before-fine a place named none =
    ap length (filter-agree_on (LiesIn a.region) (has_level a.mask a.lo a.hi) (λ p. leb (level a.mask p) a.hi) (λ p inside. same (level a.mask p)) (take place (points a.region))
    (All-take (LiesIn a.region) place (points a.region) (All-points a.region)))
    ∙ sym (count-levels a.mask a.region a.hi place named)
  where
    same : (n : ℕ) → (leb a.lo n && leb n a.hi) ≡ leb n a.hi
    same n = grind (arith, nat_tests)

-- and where some are not
pub before-split : (a : Asked) (place : ℕ) → NamesAxes a.mask (length a.region) → 1 ≤ a.lo → a.lo ≤ a.hi →
    asked_before a place + count_before (stride a.mask (a.lo - 1)) 0 a.region place ≡ count_before (stride a.mask a.hi) 0 a.region place
before-split a place named some le =
    ap (λ n. asked_before a place + n) (count-levels a.mask a.region (a.lo - 1) place named)
    ∙ split-levels (level a.mask) a.lo a.hi some le (take place (points a.region))
    ∙ sym (count-levels a.mask a.region a.hi place named)

-- before the end of the region come all that are asked for
pub all-before : (a : Asked) → asked_before a (length (points a.region)) ≡ length (asked_points a)
all-before a = ap (λ t. length (filter (has_level a.mask a.lo a.hi) t)) (take-length (points a.region))
