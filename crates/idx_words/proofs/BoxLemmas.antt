-- The region that a word spells.
use Rattle.std.proofs.Common.{◌≡◌, ℕ, ◌<◌, ◌≤◌, ◌^◌, List, [], ◌∷◌, refl, sym, ap, ◌∙◌, subst, arith}
use Rattle.std.specs.List.{zip}
use Rattle.std.proofs.lemmas.Option.{same_Some}
use Rattle.std.proofs.lemmas.List.Elements.{All-weaker}
use Rattle.idx_geom.specs.Point.{IsCoordinates, IsPoint}
use Rattle.idx_geom.specs.Region.{IsRegion, lower_ends, upper_ends}
use Rattle.idx_geom.proofs.EndsLemmas.{IsRegion-zip}
use Rattle.idx_text.specs.BoxText.{both_ends, SpellsRegion}

-- a region has these ends
zip_ends : (r : List (ℕ × ℕ)) → zip (lower_ends r) (upper_ends r) ≡ r
zip_ends [] = refl
zip_ends (b ∷ bs) = ap (λ (rest : List (ℕ × ℕ)). (b.0, b.1) ∷ rest) (zip_ends bs)

point_of_coordinates : (p : List ℕ) → IsCoordinates p → IsPoint p
point_of_coordinates p h = record { axes = h.axes; small = All-weaker (λ x. x < 2 ^ 40) (λ x. x ≤ 2 ^ 40) (λ x below. omega (arith, below)) p h.small }

pub region_spelled : (word : List ℕ) (r : List (ℕ × ℕ)) → SpellsRegion word r → IsRegion r
region_spelled word r h =
    subst IsRegion (zip_ends r) (IsRegion-zip (lower_ends r) (upper_ends r) h.ends.same_axes
    (point_of_coordinates (lower_ends r) h.lower) (point_of_coordinates (upper_ends r) h.upper) h.ends.ordered h.ends.few)

-- the ends tell the region
both_ends-once : (r s : List (ℕ × ℕ)) → both_ends r ≡ both_ends s → r ≡ s
both_ends-once [] [] e = refl
both_ends-once [] (b ∷ bs) e = cc
both_ends-once (a ∷ as') [] e = cc
both_ends-once (a ∷ as') (b ∷ bs) e =
    let lo : a.0 ≡ b.0 = cc in
    let hi : a.1 ≡ b.1 = cc in
    let more : both_ends as' ≡ both_ends bs = cc in
    let rest = both_ends-once as' bs more in
    λ i. (lo i, hi i) ∷ rest i

-- a word spells one region
pub spelled-once : (word : List ℕ) (r s : List (ℕ × ℕ)) → SpellsRegion word r → SpellsRegion word s → r ≡ s
spelled-once word r s one other = both_ends-once r s (same_Some _ _ (sym one.numbers ∙ other.numbers))
