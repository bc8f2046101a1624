-- The bounds of two regions, one of which lies in the other, on one axis.
use Rattle.std.proofs.Common.{◌≡◌, ℕ, ◌<◌, ◌≤◌, List, length, get_or, sym, subst, arith}
use Rattle.std.proofs.lemmas.List.{get_or-map}
use Rattle.idx_geom.specs.Region.{LiesIn, IsRegion, lower_ends, upper_ends}
use Rattle.idx_geom.proofs.LiesInLemmas.{LiesIn-at_axis, axes_from_ends}

-- the bounds of the extent and of the region on one axis
pub record AreBounds (es bs : List (ℕ × ℕ)) (k : ℕ) (e b : ℕ × ℕ) : Type 0 where
  pub extent_axis : k < length es
  pub region_axis : k < length bs
  pub extent_bounds : e ≡ get_or es k (0, 0)
  pub region_bounds : b ≡ get_or bs k (0, 0)
  pub low : e.0 ≤ b.0
  pub high : b.1 ≤ e.1
  pub ordered : b.0 ≤ b.1

pub AreBounds-at : (es bs : List (ℕ × ℕ)) (k : ℕ) (e b : ℕ × ℕ) → IsRegion bs → LiesIn es (lower_ends bs) → LiesIn es (upper_ends bs) → k < length bs → e ≡ get_or es k (0, 0) →
    b ≡ get_or bs k (0, 0) → AreBounds es bs k e b
AreBounds-at es bs k e b region lower upper within at_e at_b =
    let same : length es ≡ length bs = axes_from_ends es bs lower in
    let inside : k < length es = omega arith in
    let from : get_or (lower_ends bs) k 0 ≡ (get_or bs k (0, 0)).0 = get_or-map (λ c. c.0) bs k (0, 0) 0 within in
    let to : get_or (upper_ends bs) k 0 ≡ (get_or bs k (0, 0)).1 = get_or-map (λ c. c.1) bs k (0, 0) 0 within in
    let low = LiesIn-at_axis es (lower_ends bs) lower k inside in
    let high = LiesIn-at_axis es (upper_ends bs) upper k inside in
    record {
      extent_axis = inside;
      region_axis = within;
      extent_bounds = at_e;
      region_bounds = at_b;
      low = subst (λ c. c.0 ≤ b.0) (sym at_e) (subst (λ c. (get_or es k (0, 0)).0 ≤ c.0) (sym at_b) (omega (arith, low.0)));
      high = subst (λ c. b.1 ≤ c.1) (sym at_e) (subst (λ c. c.1 ≤ (get_or es k (0, 0)).1) (sym at_b) (omega (arith, high.1)));
      ordered = subst (λ c. c.0 ≤ c.1) (sym at_b) (region.ordered k (0, 0) within);
    }
