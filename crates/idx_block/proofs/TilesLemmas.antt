-- Lanes that are cut have the same copies, and so have the tiles that three cuts lead to.
use Rattle.std.proofs.Common.{◌≡◌, ℕ, zero, suc, ◌+◌, ◌-◌, ◌*◌, ◌/◌, ◌%◌, ◌<◌, List, [], ◌∷◌, ◌++◌, length, take, drop, get_or, set, refl, sym, ap, ◌∙◌, subst, arith, take-append-drop}
use Rattle.std.proofs.lemmas.List.{drop-set, take-set, drop_more}
use Rattle.idx_lanes.specs.Spread.{part_after}
use Rattle.idx_lanes.specs.declared.lane.Lane.{Lane}
use Rattle.idx_lanes.specs.Copies.{AreMade, EachCopy, IsRight}
use Rattle.idx_block.specs.Tiles.{AreTiled, IsCut, IsSplit, half_of, pair_of, tile_lanes}

pub moved : (P : ℕ → ℕ → Type 0) (f g o q : ℕ) → f ≡ g → o ≡ q → P f o → P g q
moved P f g o q byte place h = subst (λ (n : ℕ). P g n) place (subst (λ (m : ℕ). P m o) byte h)

-- what holds of both numbers below two
pub both : (P : ℕ → Type 0) → P 0 → P 1 → (k : ℕ) → k < 2 → P k
both P none one zero lt = none
both P none one (suc zero) lt = one
both P none one (suc (suc k)) lt = absurd (omega arith)

-- ---- one lane more, in front of others or behind them

pub each-inward : (P : ℕ → ℕ → Type 0) (faster more : List Lane) (pair : Lane) (from place : ℕ) →
    ((j : ℕ) → j < pair.count → EachCopy P (faster ++ more) (from + j * pair.step) (place + part_after pair.bits pair.first j)) →
    EachCopy P (faster ++ (pair ∷ more)) from place
each-inward P [] more pair from place each = each
each-inward P (lane ∷ faster) more pair from place each = λ k lt.
    each-inward P faster more pair (from + k * lane.step) (place + part_after lane.bits lane.first k) (λ j j_lt.
    moved (EachCopy P (faster ++ more)) (from + j * pair.step + k * lane.step) (from + k * lane.step + j * pair.step)
    (place + part_after pair.bits pair.first j + part_after lane.bits lane.first k) (place + part_after lane.bits lane.first k + part_after pair.bits pair.first j)
    (omega arith) (omega arith) (each j j_lt k lt))

pub each-outward : (P : ℕ → ℕ → Type 0) (faster more : List Lane) (pair : Lane) (from place : ℕ) →
    EachCopy P (faster ++ (pair ∷ more)) from place →
    (j : ℕ) → j < pair.count → EachCopy P (faster ++ more) (from + j * pair.step) (place + part_after pair.bits pair.first j)
each-outward P [] more pair from place each j j_lt = each j j_lt
each-outward P (lane ∷ faster) more pair from place each j j_lt = λ k lt.
    moved (EachCopy P (faster ++ more)) (from + k * lane.step + j * pair.step) (from + j * pair.step + k * lane.step)
    (place + part_after lane.bits lane.first k + part_after pair.bits pair.first j) (place + part_after pair.bits pair.first j + part_after lane.bits lane.first k)
    (omega arith) (omega arith)
    (each-outward P faster more pair (from + k * lane.step) (place + part_after lane.bits lane.first k) (each k lt) j j_lt)

-- ---- a lane that is split

steps : (k j s : ℕ) → (k * 2 + j) * s ≡ k * (s * 2) + j * s
steps k j s = grind arith

-- what a coordinate gives, by its pair
part-of_pair : (lane : Lane) (bit : ℕ) → IsSplit lane bit → (k : ℕ) → k < lane.count / 2 → (j : ℕ) → j < 2 →
    part_after lane.bits lane.first (k * 2 + j) ≡ part_after (lane.bits - bit) lane.first k + part_after bit 0 j
part-of_pair lane bit split k lt = both (λ j. part_after lane.bits lane.first (k * 2 + j) ≡ part_after (lane.bits - bit) lane.first k + part_after bit 0 j)
    (let none : k * 2 + 0 ≡ k * 2 = omega arith in
    let first : part_after bit 0 0 ≡ 0 = refl in
    omega (arith, ap (part_after lane.bits lane.first) none, split.low k lt, first))
    (omega (arith, split.high k lt, split.one))

split-inward : (P : ℕ → ℕ → Type 0) (lane : Lane) (bit : ℕ) (faster more : List Lane) (from place : ℕ) → IsSplit lane bit →
    EachCopy P ((lane ∷ faster) ++ more) from place → EachCopy P ((half_of lane bit ∷ faster) ++ (pair_of lane.step bit ∷ more)) from place
split-inward P lane bit faster more from place split each = λ k lt.
    each-inward P faster more (pair_of lane.step bit) (from + k * (lane.step * 2)) (place + part_after (lane.bits - bit) lane.first k) (λ j j_lt.
    let part = part-of_pair lane bit split k lt j j_lt in
    let within : k * 2 + j < lane.count = omega (arith, lt, j_lt) in
    moved (EachCopy P (faster ++ more)) (from + (k * 2 + j) * lane.step) (from + k * (lane.step * 2) + j * lane.step)
    (place + part_after lane.bits lane.first (k * 2 + j)) (place + part_after (lane.bits - bit) lane.first k + part_after bit 0 j)
    (omega (arith, steps k j lane.step)) (omega (arith, part)) (each (k * 2 + j) within))

split-outward : (P : ℕ → ℕ → Type 0) (lane : Lane) (bit : ℕ) (faster more : List Lane) (from place : ℕ) → IsSplit lane bit →
    EachCopy P ((half_of lane bit ∷ faster) ++ (pair_of lane.step bit ∷ more)) from place → EachCopy P ((lane ∷ faster) ++ more) from place
split-outward P lane bit faster more from place split each = λ m m_lt.
    let k : ℕ = m / 2 in
    let j : ℕ = m % 2 in
    let even : lane.count % 2 ≡ 0 = split.even in
    let lt : k < lane.count / 2 = omega (arith, m_lt, even) in
    let j_lt : j < 2 = omega arith in
    let whole : k * 2 + j ≡ m = omega arith in
    let part = part-of_pair lane bit split k lt j j_lt in
    moved (EachCopy P (faster ++ more)) (from + k * (lane.step * 2) + j * lane.step) (from + m * lane.step)
    (place + part_after (lane.bits - bit) lane.first k + part_after bit 0 j) (place + part_after lane.bits lane.first m)
    (omega (arith, steps k j lane.step, ap (λ n. n * lane.step) whole)) (omega (arith, part, ap (part_after lane.bits lane.first) whole))
    (each-outward P faster more (pair_of lane.step bit) (from + k * (lane.step * 2)) (place + part_after (lane.bits - bit) lane.first k) (each k lt) j j_lt)

-- ---- lanes of which one is cut

inward : (P : ℕ → ℕ → Type 0) (lane : Lane) (bit : ℕ) (slower faster more : List Lane) (from place : ℕ) → IsSplit lane bit →
    EachCopy P ((slower ++ (lane ∷ faster)) ++ more) from place → EachCopy P ((slower ++ (half_of lane bit ∷ faster)) ++ (pair_of lane.step bit ∷ more)) from place
inward P lane bit [] faster more from place split each = split-inward P lane bit faster more from place split each
inward P lane bit (other ∷ slower) faster more from place split each = λ k lt.
    inward P lane bit slower faster more (from + k * other.step) (place + part_after other.bits other.first k) split (each k lt)

outward : (P : ℕ → ℕ → Type 0) (lane : Lane) (bit : ℕ) (slower faster more : List Lane) (from place : ℕ) → IsSplit lane bit →
    EachCopy P ((slower ++ (half_of lane bit ∷ faster)) ++ (pair_of lane.step bit ∷ more)) from place → EachCopy P ((slower ++ (lane ∷ faster)) ++ more) from place
outward P lane bit [] faster more from place split each = split-outward P lane bit faster more from place split each
outward P lane bit (other ∷ slower) faster more from place split each = λ k lt.
    outward P lane bit slower faster more (from + k * other.step) (place + part_after other.bits other.first k) split (each k lt)

cut-inward : (P : ℕ → ℕ → Type 0) (old new more : List Lane) (bit step from place : ℕ) → IsCut old new bit step →
    EachCopy P (old ++ more) from place → EachCopy P (new ++ (pair_of step bit ∷ more)) from place
cut-inward P old new more bit step from place is each =
    subst (λ (ls : List Lane). EachCopy P (ls ++ (pair_of step bit ∷ more)) from place) (sym is.after)
    (subst (λ (n : ℕ). EachCopy P ((is.slower ++ (half_of is.lane bit ∷ is.faster)) ++ (pair_of n bit ∷ more)) from place) (sym is.apart)
    (inward P is.lane bit is.slower is.faster more from place is.split
    (subst (λ (ls : List Lane). EachCopy P (ls ++ more) from place) is.before each)))

cut-outward : (P : ℕ → ℕ → Type 0) (old new more : List Lane) (bit step from place : ℕ) → IsCut old new bit step →
    EachCopy P (new ++ (pair_of step bit ∷ more)) from place → EachCopy P (old ++ more) from place
cut-outward P old new more bit step from place is each =
    subst (λ (ls : List Lane). EachCopy P (ls ++ more) from place) (sym is.before)
    (outward P is.lane bit is.slower is.faster more from place is.split
    (subst (λ (n : ℕ). EachCopy P ((is.slower ++ (half_of is.lane bit ∷ is.faster)) ++ (pair_of n bit ∷ more)) from place) is.apart
    (subst (λ (ls : List Lane). EachCopy P (ls ++ (pair_of step bit ∷ more)) from place) is.after each)))

-- ---- lanes of tiles

with_none : (P : ℕ → ℕ → Type 0) (lanes : List Lane) (from place : ℕ) → EachCopy P lanes from place → EachCopy P (lanes ++ []) from place
with_none P [] from place each = each
with_none P (lane ∷ lanes) from place each = λ k lt. with_none P lanes (from + k * lane.step) (place + part_after lane.bits lane.first k) (each k lt)

without_none : (P : ℕ → ℕ → Type 0) (lanes : List Lane) (from place : ℕ) → EachCopy P (lanes ++ []) from place → EachCopy P lanes from place
without_none P [] from place each = each
without_none P (lane ∷ lanes) from place each = λ k lt. without_none P lanes (from + k * lane.step) (place + part_after lane.bits lane.first k) (each k lt)

-- what holds of each copy along lanes holds of each along those of their tiles
pub each-tiled : (P : ℕ → ℕ → Type 0) (old new : List Lane) (one two four from place : ℕ) → AreTiled old new one two four → EachCopy P old from place →
    EachCopy P (new ++ tile_lanes one two four) from place
each-tiled P old new one two four from place is each =
    cut-inward P is.twice new (pair_of two 2 ∷ (pair_of one 1 ∷ [])) 4 four from place is.third
    (cut-inward P is.once is.twice (pair_of one 1 ∷ []) 2 two from place is.second
    (cut-inward P old is.once [] 1 one from place is.first (with_none P old from place each)))

-- and the other way round
pub tiled-each : (P : ℕ → ℕ → Type 0) (old new : List Lane) (one two four from place : ℕ) → AreTiled old new one two four →
    EachCopy P (new ++ tile_lanes one two four) from place → EachCopy P old from place
tiled-each P old new one two four from place is each =
    without_none P old from place
    (cut-outward P old is.once [] 1 one from place is.first
    (cut-outward P is.once is.twice (pair_of one 1 ∷ []) 2 two from place is.second
    (cut-outward P is.twice new (pair_of two 2 ∷ (pair_of one 1 ∷ [])) 4 four from place is.third each)))

pub tiled-made : (want : ℕ → List ℕ) (size : ℕ) (old_lanes new_lanes : List Lane) (one two four from place : ℕ) (old new : List ℕ) → AreTiled old_lanes new_lanes one two four →
    AreMade want size (new_lanes ++ tile_lanes one two four) from place old new → AreMade want size old_lanes from place old new
tiled-made want size old_lanes new_lanes one two four from place old new is made = record {
  kept = made.kept;
  placed = tiled-each (λ f o. IsRight want size new o) old_lanes new_lanes one two four from place is made.placed;
}

-- ---- a lane is replaced

-- lanes of which one is replaced
pub lanes-with : (lanes : List Lane) (at : ℕ) (d half : Lane) → at < length lanes →
    (lanes ≡ take at lanes ++ (get_or lanes at d ∷ drop (at + 1) lanes)) × (set lanes at half ≡ take at lanes ++ (half ∷ drop (at + 1) lanes))
lanes-with lanes at d half within = (
  sym (take-append-drop at lanes) ∙ ap (λ t. take at lanes ++ t) (drop_more lanes at d within),
  sym (take-append-drop at (set lanes at half)) ∙ ap (λ t. t ++ drop at (set lanes at half)) (take-set lanes at half)
      ∙ ap (λ t. take at lanes ++ t) (drop-set lanes at half within),
)
