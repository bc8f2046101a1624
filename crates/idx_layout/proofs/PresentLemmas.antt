-- A box has a point in a block exactly where the block's grid has one in what the box and the block's have in common.
use Rattle.std.proofs.Common.{◌≡◌, ◌↔◌, ℕ, ◌+◌, ◌/◌, ◌^◌, Bool, true, false, List, length, refl, sym, ap, ◌∙◌, arith, eq-eqb, eqb-true, eqb, subst, ◌≤◌, ◌<◌, ◌*◌, ◌%◌, zero, suc, ◌-◌}
use Rattle.std.proofs.Math.Nat.{div-lt_iff_lt-mul, mod-eq_of_lt, one-mul}
use Rattle.std.proofs.Math.Pow.{pow_mono}
use Rattle.std.proofs.lemmas.Nat.{pow-add, pow_pos}
use Rattle.idx_geom.specs.Region.{LiesIn, points, common_bounds}
use Rattle.idx_geom.proofs.PointsLemmas.{LiesIn-slice_get, slice_get-place_of}
use Rattle.idx_geom.specs.Region.{place_of}
use Rattle.idx_geom.proofs.LiesInLemmas.{length_from_LiesIn, length-common_bounds}
use Rattle.idx_hz.specs.Mask.{HasAddress}
use Rattle.idx_hz.specs.Address.{hz_address}
use Rattle.idx_hz.proofs.AddressLaws.{hz_address-lt}
use Rattle.idx_grid.specs.Grid.{LiesOn, lies_on}
use Rattle.idx_grid.specs.declared.grid.Grid.{Grid}
use Rattle.idx_grid.specs.Block.{IsInBlock}
use Rattle.idx_grid.specs.LevelGrid.{IsGridAt, IsGridUpTo}
use Rattle.idx_grid.proofs.LevelGridLemmas.{length-first_of, length-strides}
use Rattle.std.proofs.lemmas.List.{length-replicate}
use Rattle.idx_grid.proofs.GridLemmas.{is_on_axes_iff}
use Rattle.std.specs.List.{list_any}
use Rattle.idx_layout.specs.Placing.{has_point_in}
use Rattle.idx_layout.proofs.ListLemmas.{same_tests, list_any-slice_get, passing}

-- a region's point that passes a test is found
pub any_point : (r : List (ℕ × ℕ)) (test : List ℕ → Bool) (p : List ℕ) → LiesIn r p → test p ≡ true → list_any test (points r) ≡ true
any_point r test p inside passes = list_any-slice_get test (points r) (place_of r p) p (slice_get-place_of r p inside) passes

-- where one is found there is such a point
pub point_found : (r : List (ℕ × ℕ)) (test : List ℕ → Bool) → list_any test (points r) ≡ true → (p : List ℕ) × LiesIn r p × (test p ≡ true)
point_found r test e =
    let at = passing test (points r) e in (at.1, (LiesIn-slice_get r at.0 at.1 at.2).0, at.3)

-- what the box and the block's box have in common
pub record AreMet (mask : List ℕ) (region box common : List (ℕ × ℕ)) (grid : Grid) (bits number : ℕ) : Type 0 where
  pub has : (p : List ℕ) → LiesIn region p → HasAddress mask p
  pub block : (p : List ℕ) → IsInBlock mask (length region) bits number p ↔ (LiesIn box p × LiesOn grid p)
  pub both : (p : List ℕ) → LiesIn common p ↔ (LiesIn region p × LiesIn box p)

in_block : (mask p : List ℕ) (region : List (ℕ × ℕ)) (bits block : ℕ) → LiesIn region p → HasAddress mask p →
    (eqb (hz_address mask p / 2 ^ bits) block) ≡ true → IsInBlock mask (length region) bits block p
in_block mask p region bits block inside has e =
    record { size = length_from_LiesIn region p inside; has = has; address = eqb-true (hz_address mask p / 2 ^ bits) block e }

pub present-common : (mask : List ℕ) (region box common : List (ℕ × ℕ)) (grid : Grid) (bits block : ℕ) →
    AreMet mask region box common grid bits block →
    list_any (lies_on grid) (points common) ≡ has_point_in mask region bits block
present-common mask region box common grid bits block h =
    same_tests (list_any (lies_on grid) (points common)) (has_point_in mask region bits block)
    (λ e.
    let at = point_found common (lies_on grid) e in
    let both = (h.both at.0).0 at.1 in
    let within = (h.block at.0).1 (both.1, (is_on_axes_iff grid.first grid.step at.0).0 at.2) in
    any_point region _ at.0 both.0 (eq-eqb (hz_address mask at.0 / 2 ^ bits) block within.address))
    (λ e.
    let at = point_found region _ e in
    let within = in_block mask at.0 region bits block at.1 (h.has at.0 at.1) at.2 in
    let both = (h.block at.0).0 within in
    any_point common (lies_on grid) at.0 ((h.both at.0).1 (at.1, both.0)) ((is_on_axes_iff grid.first grid.step at.0).1 both.1))

-- the grid of a block has the block's axes
pub grid_axes : (mask : List ℕ) (grid : Grid) (axes bits h block : ℕ) → (block ≡ 0 → IsGridUpTo mask axes bits grid) →
    (1 ≤ block → IsGridAt mask axes h grid) → (length grid.first ≡ axes) × (length grid.step ≡ axes)
grid_axes mask grid axes bits h zero coarse fine =
    let is = coarse refl in
    (ap length is.first ∙ length-replicate axes 0, ap length is.step ∙ length-strides mask bits axes)
grid_axes mask grid axes bits h (suc block) coarse fine =
    let is = fine (omega arith) in
    (ap length is.first ∙ length-first_of mask h axes, ap length is.step ∙ length-strides mask (h - 1) axes)

-- where the box and the block's box have no point in common, the block has none of the box
pub absent-apart : (mask : List ℕ) (region box : List (ℕ × ℕ)) (grid : Grid) (bits block : ℕ) →
    ((p : List ℕ) → LiesIn region p → HasAddress mask p) →
    ((p : List ℕ) → IsInBlock mask (length region) bits block p ↔ (LiesIn box p × LiesOn grid p)) →
    ((p : List ℕ) × (LiesIn region p × LiesIn box p) → ⊥) → has_point_in mask region bits block ≡ false
absent-apart mask region box grid bits block has is apart = none (has_point_in mask region bits block) refl
  where
    none : (b : Bool) → has_point_in mask region bits block ≡ b → has_point_in mask region bits block ≡ false
    none false e = e
    none true e =
        let at = point_found region _ e in
        let within = in_block mask at.0 region bits block at.1 (has at.0 at.1) at.2 in
        absurd (apart (at.0, (at.1, ((is at.0).0 within).0)))

-- and so has what it has in common with a box of as many axes
pub common_axes : (region box common : List (ℕ × ℕ)) (n : ℕ) → common ≡ common_bounds region box → length region ≡ length box → n ≡ length region → n ≡ length common
common_axes region box common n is same axes = axes ∙ sym (ap length is ∙ length-common_bounds region box same)

-- past the last block there is no point
pub absent-past : (mask : List ℕ) (region : List (ℕ × ℕ)) (bits block : ℕ) → bits ≤ length mask → 2 ^ (length mask - bits) ≤ block → has_point_in mask region bits block ≡ false
absent-past mask region bits block few past = none (has_point_in mask region bits block) refl
  where
    digits : bits ≤ length mask → length mask ≡ length mask - bits + bits
    digits few = omega arith

    none : (b : Bool) → has_point_in mask region bits block ≡ b → has_point_in mask region bits block ≡ false
    none false e = e
    none true e =
        let at = point_found region _ e in
        let address : hz_address mask at.0 / 2 ^ bits ≡ block = eqb-true (hz_address mask at.0 / 2 ^ bits) block at.2 in
        let whole : 2 ^ length mask ≡ 2 ^ (length mask - bits) * 2 ^ bits =
        ap (λ n. 2 ^ n) (digits few) ∙ pow-add 2 (length mask - bits) bits in
        let small : hz_address mask at.0 < 2 ^ (length mask - bits) * 2 ^ bits =
        subst (λ (n : ℕ). hz_address mask at.0 < n) whole (hz_address-lt mask at.0) in
        let below : hz_address mask at.0 / 2 ^ bits < 2 ^ (length mask - bits) =
        (div-lt_iff_lt-mul {k = 2 ^ bits} {x = hz_address mask at.0} {y = 2 ^ (length mask - bits)} (pow_pos bits)).1 small in
        absurd (omega arith)

-- how many blocks there are, by a shift
pub shifted : (n : ℕ) → n ≤ 40 → 1 * 2 ^ n % 2 ^ 64 ≡ 2 ^ n
shifted n few =
    let small : 2 ^ n ≤ 2 ^ 40 = pow_mono few in
    ap (λ k. k % 2 ^ 64) (one-mul (2 ^ n)) ∙ mod-eq_of_lt (omega arith)
