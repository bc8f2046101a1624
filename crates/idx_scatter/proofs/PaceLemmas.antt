-- Points that lie equally far apart in the answer: along a row, and along the rows of a plane.
use Rattle.std.proofs.Common.{◌≡◌, ℕ, ◌+◌, ◌*◌, ◌/◌, ◌%◌, ◌≤◌, Bool, true, false, cond, eqb, sym, ap, ◌∙◌, arith}
use Rattle.std.proofs.lemmas.Nat.{div-add-mod'}
use Rattle.std.proofs.Math.Nat.{add-mul-mod_self_right}
use Rattle.idx_scatter.specs.declared.side.Earlier.{Earlier}
use Rattle.idx_scatter.specs.declared.side.Side.{Side}
use Rattle.idx_scatter.specs.declared.leg.Leg.{Leg}
use Rattle.idx_scatter.specs.declared.tally.Tally.{Tally}
use Rattle.idx_scatter.specs.Legs.{later, place_by, tally_at}
use Rattle.idx_scatter.specs.Sides.{IsSane, in_row, multiples_in}
use Rattle.idx_scatter.proofs.SideLemmas.{multiples-on}

-- ---- along a row

-- what comes before a place of a row, by whether the row lies on the strides
abbrev in_row_by : Side → ℕ → ℕ → Bool → Earlier
in_row_by side count here lies =
    cond {A = Earlier} lies (record { count = side.whole * count + multiples_in side.stride side.lo here; lies = eqb ((side.lo + here) % side.stride) 0 })
    (record { count = side.whole * count; lies = false })

-- whole steps behind a number its rest is the same
stepped-rest : (s x k step : ℕ) → step % s ≡ 0 → (x + k * step) % s ≡ x % s
stepped-rest s x k step whole =
    let parts : step / s * s ≡ step = omega (arith, div-add-mod' step s, whole) in
    let more : k * (step / s) * s ≡ k * (step / s * s) = grind arith in
    ap (λ n. (x + n) % s) (sym (more ∙ ap (λ n. k * n) parts)) ∙ add-mul-mod_self_right x (k * (step / s)) s

-- on the strides the places of whole steps come evenly
fine-later : (side : Side) (rows : Earlier) (here step k : ℕ) → IsSane side → rows.lies ≡ true → step % side.stride ≡ 0 →
    in_row side rows (here + k * step) ≡ record { count = (in_row side rows (here + 0 * step)).count + k * (step / side.stride); lies = (in_row side rows (here + 0 * step)).lies }
fine-later side rows here step k sane stands whole =
    let far : in_row side rows (here + k * step) ≡ in_row_by side rows.count (here + k * step) true = ap (in_row_by side rows.count (here + k * step)) stands in
    let near : in_row side rows (here + 0 * step) ≡ in_row_by side rows.count (here + 0 * step) true = ap (in_row_by side rows.count (here + 0 * step)) stands in
    let near_count : (in_row side rows (here + 0 * step)).count ≡ side.whole * rows.count + multiples_in side.stride side.lo (here + 0 * step) = ap (λ (e : Earlier). e.count) near in
    let near_lies : (in_row side rows (here + 0 * step)).lies ≡ eqb ((side.lo + (here + 0 * step)) % side.stride) 0 = ap (λ (e : Earlier). e.lies) near in
    let more = multiples-on side.stride side.lo here k step sane.paced whole in
    let none = multiples-on side.stride side.lo here 0 step sane.paced whole in
    let counts : side.whole * rows.count + multiples_in side.stride side.lo (here + k * step) ≡ (in_row side rows (here + 0 * step)).count + k * (step / side.stride) =
    omega (arith, near_count, more, none) in
    let behind : side.lo + (here + k * step) ≡ side.lo + here + k * step = omega arith in
    let before : side.lo + here + 0 * step ≡ side.lo + (here + 0 * step) = omega arith in
    let rests : (side.lo + (here + k * step)) % side.stride ≡ (side.lo + (here + 0 * step)) % side.stride =
    ap (λ n. n % side.stride) behind ∙ stepped-rest side.stride (side.lo + here) k step whole
    ∙ sym (stepped-rest side.stride (side.lo + here) 0 step whole) ∙ ap (λ n. n % side.stride) before in
    let lies : eqb ((side.lo + (here + k * step)) % side.stride) 0 ≡ (in_row side rows (here + 0 * step)).lies = ap (λ n. eqb n 0) rests ∙ sym near_lies in
    far ∙ (λ i. record { count = counts i; lies = lies i })

-- and off the strides none comes
coarse-later : (side : Side) (rows : Earlier) (here there : ℕ) → rows.lies ≡ false → in_row side rows here ≡ in_row side rows there
coarse-later side rows here there apart = ap (in_row_by side rows.count here) apart ∙ sym (ap (in_row_by side rows.count there) apart)

-- the points of a row, of which none lies on the coarser strides
pub even-later : (leg : Leg) (rows : Tally) (k : ℕ) → IsSane leg.fine → rows.fine.lies ≡ true → rows.coarse.lies ≡ false → leg.step % leg.fine.stride ≡ 0 →
    tally_at leg rows k ≡ later (k * (leg.step / leg.fine.stride)) (tally_at leg rows 0)
even-later leg rows k sane stands apart whole =
    let fine = fine-later leg.fine rows.fine leg.here leg.step k sane stands whole in
    let coarse = coarse-later leg.coarse rows.coarse (leg.here + k * leg.step) (leg.here + 0 * leg.step) apart in
    λ i. record { fine = fine i; coarse = coarse i }

-- the places of a row whose points come evenly
pub row-places : (leg : Leg) (rows : Tally) (more k : ℕ) → tally_at leg rows k ≡ later (k * more) (tally_at leg rows 0) → (tally_at leg rows 0).coarse.count ≤ (tally_at leg rows 0).fine.count →
    place_by (tally_at leg rows k) ≡ place_by (tally_at leg rows 0) + k * more
row-places leg rows more k is ordered = ap place_by is ∙ omega (arith, ordered)

-- ---- along the rows of a plane

-- so many points more before a row are so many whole rows of the axis more before each of its points
behind-later : (leg : Leg) (n : ℕ) (rows : Tally) (k : ℕ) → tally_at leg (later n rows) k ≡ later (leg.fine.whole * n) (tally_at leg rows k)
behind-later leg n rows k =
    let fine = by_test rows.fine.lies in
    λ i. record { fine = fine i; coarse = in_row leg.coarse rows.coarse (leg.here + k * leg.step) }
  where
    all : leg.fine.whole * (rows.fine.count + n) ≡ leg.fine.whole * rows.fine.count + leg.fine.whole * n
    all = grind arith

    by_test : (t : Bool) → in_row_by leg.fine (rows.fine.count + n) (leg.here + k * leg.step) t ≡
        record { count = (in_row_by leg.fine rows.fine.count (leg.here + k * leg.step) t).count + leg.fine.whole * n; lies = (in_row_by leg.fine rows.fine.count (leg.here + k * leg.step) t).lies }
    by_test true =
        let counts : leg.fine.whole * (rows.fine.count + n) + multiples_in leg.fine.stride leg.fine.lo (leg.here + k * leg.step) ≡
        leg.fine.whole * rows.fine.count + multiples_in leg.fine.stride leg.fine.lo (leg.here + k * leg.step) + leg.fine.whole * n = omega (arith, all) in
        λ i. record { count = counts i; lies = eqb ((leg.fine.lo + (leg.here + k * leg.step)) % leg.fine.stride) 0 }
    by_test false = λ i. record { count = all i; lies = false }

-- the places of a plane whose rows come evenly, and the points of each row
pub plane-places : (slower leg : Leg) (rows : Tally) (across along j k : ℕ) → tally_at slower rows j ≡ later (j * across) (tally_at slower rows 0) →
    tally_at leg (tally_at slower rows 0) k ≡ later (k * along) (tally_at leg (tally_at slower rows 0) 0) →
    (tally_at leg (tally_at slower rows 0) 0).coarse.count ≤ (tally_at leg (tally_at slower rows 0) 0).fine.count →
    place_by (tally_at leg (tally_at slower rows j) k) ≡ place_by (tally_at leg (tally_at slower rows 0) 0) + j * (across * leg.fine.whole) + k * along
plane-places slower leg rows across along j k rows_are row_is ordered =
    let whole : leg.fine.whole * (j * across) ≡ j * (across * leg.fine.whole) = grind arith in
    let is : tally_at leg (tally_at slower rows j) k ≡ later (leg.fine.whole * (j * across)) (later (k * along) (tally_at leg (tally_at slower rows 0) 0)) =
    ap (λ (t : Tally). tally_at leg t k) rows_are ∙ behind-later leg (j * across) (tally_at slower rows 0) k ∙ ap (later (leg.fine.whole * (j * across))) row_is in
    ap place_by is ∙ omega (arith, ordered, whole)
