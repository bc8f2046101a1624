-- Which regions lie below a mask's size.
use Rattle.std.proofs.Common.{◌≡◌, ℕ, ◌<◌, ◌^◌, ◌↔◌, List, length, get_or, sym, ◌∙◌, subst, arith}
use Rattle.std.proofs.lemmas.List.{length-map, get_or-map}
use Rattle.idx_geom.specs.Region.{LiesIn, upper_ends}
use Rattle.idx_geom.proofs.EndsLemmas.{IsOrdered}
use Rattle.idx_geom.proofs.LiesInLemmas.{length_from_LiesIn, LiesIn-at_axis, LiesIn-upper_ends}
use Rattle.idx_hz.specs.Mask.{bit_count, HasAddress}

-- a point of a region has an address where the upper end has one
pub HasAddress-from_end : (mask : List ℕ) (bs : List (ℕ × ℕ)) (p : List ℕ) → HasAddress mask (upper_ends bs) → LiesIn bs p → HasAddress mask p
HasAddress-from_end mask bs p end h =
    let axes : length p ≡ length bs = length_from_LiesIn bs p h in
    let ends : length (upper_ends bs) ≡ length bs = length-map bs (λ b. b.1) in
    record {
      named = λ k d some. subst (λ n. get_or mask k d < n) (ends ∙ sym axes) (end.named k d some);
      below = λ k some.
          let within : k < length bs = omega arith in
          let limit : get_or (upper_ends bs) k 0 < 2 ^ bit_count k mask = end.below k (omega arith) in
          let upper : get_or (upper_ends bs) k 0 ≡ (get_or bs k (0, 0)).1 = get_or-map (λ b. b.1) bs k (0, 0) 0 within in
          omega (arith, (LiesIn-at_axis bs p h k within).1);
    }

-- the upper end has an address exactly where each point has one
pub holds_iff : (mask : List ℕ) (bs : List (ℕ × ℕ)) → IsOrdered bs → HasAddress mask (upper_ends bs) ↔ ((p : List ℕ) → LiesIn bs p → HasAddress mask p)
holds_iff mask bs ordered = (
  λ end p h. HasAddress-from_end mask bs p end h,
  λ all. all (upper_ends bs) (LiesIn-upper_ends bs ordered),
)
