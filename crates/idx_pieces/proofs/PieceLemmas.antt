-- The points whose Z addresses have the same digits in front.
use Rattle.std.proofs.Common.{◌≡◌, ℕ, ◌+◌, ◌-◌, ◌*◌, ◌/◌, ◌^◌, ◌<◌, ◌≤◌, ◌↔◌, true, List, [], ◌∷◌, length, map, get_or, refl, sym, ap, ◌∙◌, arith, subst, eq-eqb, eqb-true, zero-add}
use Rattle.std.specs.Option.{SomeIff}
use Rattle.std.specs.Prelude.{Option}
use Rattle.std.specs.List.{range_with_len, zip}
use Rattle.std.proofs.lemmas.List.{get_or-map, length-map}
use Rattle.std.proofs.lemmas.List.FromFn.{length-range_with_len, get_or-range_with_len}
use Rattle.std.proofs.lemmas.Nat.{mul-le, pow_pos, pow-add}
use Rattle.idx_geom.specs.Region.{HaveCommonPoint, LiesIn, common_bounds, upper_ends}
use Rattle.idx_geom.proofs.EndsLemmas.{IsOrdered, IsOrdered-zip}
use Rattle.idx_geom.proofs.LiesInLemmas.{length_from_LiesIn}
use Rattle.idx_geom.proofs.RegionSteps.{SomeIff-same}
use Rattle.idx_hz.specs.Address.{z_address}
use Rattle.idx_hz.specs.Coordinate.{coordinate_at, point_at}
use Rattle.idx_hz.specs.Mask.{HasAddress, NamesAxes}
use Rattle.idx_hz.specs.Stride.{stride}
use Rattle.idx_hz.proofs.RegionLemmas.{HasAddress-from_end}
use Rattle.idx_hz.proofs.ZLemmas.{HasAddress-point_at, get_or-point_at, length-point_at, z_address-point_at}
use Rattle.idx_grid.specs.Block.{HasPrefix}
use Rattle.idx_grid.proofs.BoxLemmas.{AreUpper, IsCorner, box_iff_prefix}
use Rattle.idx_layout.proofs.PresentLemmas.{any_point, point_found}
use Rattle.idx_pieces.specs.Pieces.{front_bounds, has_piece, piece_of, piece_region}
use Rattle.idx_pieces.proofs.BoundsLemmas.{same_from_points}

-- the box of the points that have these digits in front of the last e
abbrev pub front_box : List ℕ → ℕ → ℕ → ℕ → List (ℕ × ℕ)
front_box mask e id axes = map (front_bounds mask e id) (range_with_len 0 axes)

-- its upper ends
abbrev upper_of : List ℕ → ℕ → ℕ → ℕ → List ℕ
upper_of mask e id axes = map (λ axis. coordinate_at mask axis (id * 2 ^ e) + stride mask (length mask - e) axis - 1) (range_with_len 0 axes)

zip-maps : (f g : ℕ → ℕ) (xs : List ℕ) → zip (map f xs) (map g xs) ≡ map (λ x. (f x, g x)) xs
zip-maps f g [] = refl
zip-maps f g (x ∷ xs) = ap (λ (rest : List (ℕ × ℕ)). (f x, g x) ∷ rest) (zip-maps f g xs)

-- an id is small enough
pub record IsId (mask : List ℕ) (axes e id : ℕ) : Type 0 where
  pub named : NamesAxes mask axes
  pub digits : e ≤ length mask
  pub small : id < 2 ^ (length mask - e)

id_fits : (mask : List ℕ) (axes e id : ℕ) → IsId mask axes e id → id * 2 ^ e < 2 ^ length mask
id_fits mask axes e id is =
    let whole : 2 ^ length mask ≡ 2 ^ (length mask - e) * 2 ^ e =
    ap (λ (n : ℕ). 2 ^ n) (split is.digits) ∙ pow-add 2 (length mask - e) e in
    let some : 1 ≤ 2 ^ e = pow_pos e in
    let more : (id + 1) * 2 ^ e ≤ 2 ^ (length mask - e) * 2 ^ e = mul-le (id + 1) (2 ^ e) (2 ^ (length mask - e)) (2 ^ e) (omega (arith, is.small)) (omega arith) in
    let next : (id + 1) * 2 ^ e ≡ id * 2 ^ e + 2 ^ e = grind arith in
    omega (arith, whole, some, more, next)
  where
    split : e ≤ length mask → length mask ≡ length mask - e + e
    split h = omega arith

corner : (mask : List ℕ) (axes e id : ℕ) → IsId mask axes e id → IsCorner mask (point_at mask axes (id * 2 ^ e)) (length mask - e) id
corner mask axes e id is =
    let behind : length mask - (length mask - e) ≡ e = omega (arith, is.digits) in
    record {
      has = HasAddress-point_at mask axes (id * 2 ^ e) is.named;
      fits = omega arith;
      small = is.small;
      address = z_address-point_at mask axes (id * 2 ^ e) is.named (id_fits mask axes e id is) ∙ ap (λ (n : ℕ). id * 2 ^ n) (sym behind);
    }

length-upper_of : (mask : List ℕ) (e id axes : ℕ) → length (upper_of mask e id axes) ≡ axes
length-upper_of mask e id axes = length-map (range_with_len 0 axes) _ ∙ length-range_with_len 0 axes

get_or-upper_of : (mask : List ℕ) (e id axes a : ℕ) → a < axes → get_or (upper_of mask e id axes) a 0 ≡ coordinate_at mask a (id * 2 ^ e) + stride mask (length mask - e) a - 1
get_or-upper_of mask e id axes a h =
    let f : ℕ → ℕ = λ axis. coordinate_at mask axis (id * 2 ^ e) + stride mask (length mask - e) axis - 1 in
    get_or-map f (range_with_len 0 axes) a 0 0 (omega (arith, length-range_with_len 0 axes)) ∙ ap f (get_or-range_with_len 0 axes a 0 h ∙ zero-add a)

upper : (mask : List ℕ) (axes e id : ℕ) → AreUpper mask (point_at mask axes (id * 2 ^ e)) (upper_of mask e id axes) (length mask - e)
upper mask axes e id a inside =
    let small : a < axes = omega (arith, length-point_at mask axes (id * 2 ^ e)) in
    get_or-upper_of mask e id axes a small
    ∙ ap (λ (n : ℕ). n + stride mask (length mask - e) a - 1) (sym (get_or-point_at mask axes (id * 2 ^ e) a small))

box_made : (mask : List ℕ) (axes e id : ℕ) → zip (point_at mask axes (id * 2 ^ e)) (upper_of mask e id axes) ≡ front_box mask e id axes
box_made mask axes e id = zip-maps (λ axis. coordinate_at mask axis (id * 2 ^ e)) (λ axis. coordinate_at mask axis (id * 2 ^ e) + stride mask (length mask - e) axis - 1) (range_with_len 0 axes)

pub front_ordered : (mask : List ℕ) (axes e id : ℕ) → IsOrdered (front_box mask e id axes)
front_ordered mask axes e id =
    subst IsOrdered (box_made mask axes e id)
    (IsOrdered-zip (point_at mask axes (id * 2 ^ e)) (upper_of mask e id axes) (length-point_at mask axes (id * 2 ^ e) ∙ sym (length-upper_of mask e id axes))
    (λ k h.
    let small : k < axes = omega (arith, length-point_at mask axes (id * 2 ^ e)) in
    let step : 1 ≤ stride mask (length mask - e) k = pow_pos _ in
    omega (arith, get_or-point_at mask axes (id * 2 ^ e) k small, get_or-upper_of mask e id axes k small, step)))

-- the points of that box
pub front_iff : (mask : List ℕ) (axes e id : ℕ) (p : List ℕ) → IsId mask axes e id →
    LiesIn (front_box mask e id axes) p ↔ HasPrefix mask axes (length mask - e) id p
front_iff mask axes e id p is =
    let lo : List ℕ = point_at mask axes (id * 2 ^ e) in
    let hi : List ℕ = upper_of mask e id axes in
    let same : length lo ≡ length hi = length-point_at mask axes (id * 2 ^ e) ∙ sym (length-upper_of mask e id axes) in
    let iff : LiesIn (zip lo hi) p ↔ HasPrefix mask (length lo) (length mask - e) id p =
    box_iff_prefix mask lo hi p (length mask - e) id (corner mask axes e id is) same (upper mask axes e id) in
    let sized : LiesIn (zip lo hi) p ↔ HasPrefix mask axes (length mask - e) id p =
    subst (λ (n : ℕ). LiesIn (zip lo hi) p ↔ HasPrefix mask n (length mask - e) id p) (length-point_at mask axes (id * 2 ^ e)) iff in
    subst (λ (bs : List (ℕ × ℕ)). LiesIn bs p ↔ HasPrefix mask axes (length mask - e) id p) (box_made mask axes e id) sized

-- it is the only box with them
pub front_only : (mask : List ℕ) (axes e id : ℕ) (found : List (ℕ × ℕ)) → IsId mask axes e id →
    ((p : List ℕ) → LiesIn found p ↔ HasPrefix mask axes (length mask - e) id p) → found ≡ front_box mask e id axes
front_only mask axes e id found is points =
    same_from_points found (front_box mask e id axes) (front_ordered mask axes e id)
    (λ p. (λ h. (front_iff mask axes e id p is).1 ((points p).0 h), λ h. (points p).1 ((front_iff mask axes e id p is).0 h)))

-- ---- the box's points of a piece

-- a box whose points have addresses
pub record IsCovered (mask : List ℕ) (box : List (ℕ × ℕ)) (e id : ℕ) : Type 0 where
  pub has : HasAddress mask (upper_ends box)
  pub digits : e ≤ length mask
  pub small : id < 2 ^ (length mask - e)

pub id_is : (mask : List ℕ) (box : List (ℕ × ℕ)) (e id : ℕ) → IsCovered mask box e id → IsId mask (length box) e id
id_is mask box e id is = record {
  named = subst (λ (n : ℕ). NamesAxes mask n) (length-map box (λ (b : ℕ × ℕ). b.1)) is.has.named;
  digits = is.digits;
  small = is.small;
}

-- a point of the box has these digits exactly where it is of that piece
pub prefix_from_piece : (mask : List ℕ) (box : List (ℕ × ℕ)) (e id : ℕ) (p : List ℕ) → IsCovered mask box e id → LiesIn box p →
    piece_of mask e p ≡ id → HasPrefix mask (length box) (length mask - e) id p
prefix_from_piece mask box e id p is inside of =
    let behind : length mask - (length mask - e) ≡ e = omega (arith, is.digits) in
    record {
      size = length_from_LiesIn box p inside;
      has = HasAddress-from_end mask box p is.has inside;
      prefix = ap (λ (n : ℕ). z_address mask p / 2 ^ n) behind ∙ of;
    }

pub piece_from_prefix : (mask : List ℕ) (axes e id : ℕ) (p : List ℕ) → e ≤ length mask → HasPrefix mask axes (length mask - e) id p → piece_of mask e p ≡ id
piece_from_prefix mask axes e id p digits is =
    let behind : e ≡ length mask - (length mask - e) = omega arith in
    ap (λ (n : ℕ). z_address mask p / 2 ^ n) behind ∙ is.prefix

pub piece_has_point : (mask : List ℕ) (box : List (ℕ × ℕ)) (e id : ℕ) (p : List ℕ) → LiesIn box p → piece_of mask e p ≡ id → has_piece mask box e id ≡ true
piece_has_point mask box e id p inside of = any_point box _ p inside (eq-eqb (piece_of mask e p) id of)

pub point_of_piece : (mask : List ℕ) (box : List (ℕ × ℕ)) (e id : ℕ) → has_piece mask box e id ≡ true →
    (p : List ℕ) × (LiesIn box p × (piece_of mask e p ≡ id))
point_of_piece mask box e id has =
    let at = point_found box _ has in
    (at.0, (at.1, eqb-true (piece_of mask e at.0) id at.2))

-- what is found of a piece
pub piece_found : (mask : List ℕ) (box found : List (ℕ × ℕ)) (e id : ℕ) (o : Option (List (ℕ × ℕ))) → IsCovered mask box e id →
    ((p : List ℕ) → LiesIn found p ↔ HasPrefix mask (length box) (length mask - e) id p) →
    SomeIff o (HaveCommonPoint box found) (common_bounds box found) →
    SomeIff o (has_piece mask box e id ≡ true) (piece_region mask box e id)
piece_found mask box found e id o is points got =
    SomeIff-same o (common_bounds box found) (piece_region mask box e id)
    (λ common. piece_has_point mask box e id common.0 common.1.0 (piece_from_prefix mask (length box) e id common.0 is.digits ((points common.0).0 common.1.1)))
    (λ has. let at = point_of_piece mask box e id has in
    (at.0, (at.1.0, (points at.0).1 (prefix_from_piece mask box e id at.0 is at.1.0 at.1.1))))
    (ap (common_bounds box) (front_only mask (length box) e id found (id_is mask box e id is) points))
    got
