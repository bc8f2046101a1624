-- What a walk's axes give, one axis on.
use Rattle.std.proofs.Common.{◌≡◌, ℕ, ◌+◌, ◌-◌, ◌*◌, ◌<◌, ◌≤◌, List, length, drop, get_or, ap, arith, All}
use Rattle.std.proofs.lemmas.List.Elements.{All-drop}
use Rattle.std.proofs.Math.Nat.{mul-le-mul_left}
use Rattle.std.proofs.lemmas.List.{drop_more}
use Rattle.idx_stride.specs.declared.axis.Axis.{Axis}
use Rattle.idx_stride.specs.Compact.{IsPacked}
use Rattle.idx_stride.specs.Counts.{coarse_coordinates, coarse_points}
use Rattle.idx_stride.specs.Strides.{IsAxis, grid_points, reach}
use Rattle.idx_stride.proofs.PartLemmas.{grid_points-positive}

pub reach-drop : (axes : List Axis) (k : ℕ) (d : Axis) → k < length axes → reach (drop k axes) ≡ ((get_or axes k d).count - 1) * (get_or axes k d).step + reach (drop (k + 1) axes)
reach-drop axes k d h = ap reach (drop_more axes k d h)

pub grid_points-drop : (axes : List Axis) (k : ℕ) (d : Axis) → k < length axes → grid_points (drop k axes) ≡ (get_or axes k d).count * grid_points (drop (k + 1) axes)
grid_points-drop axes k d h = ap grid_points (drop_more axes k d h)

pub coarse_points-drop : (axes : List Axis) (k : ℕ) (d : Axis) → k < length axes → coarse_points (drop k axes) ≡ coarse_coordinates (get_or axes k d) * coarse_points (drop (k + 1) axes)
coarse_points-drop axes k d h = ap coarse_points (drop_more axes k d h)

-- a product so far fits, since the whole does
pub product_fits : (axes : List Axis) (k : ℕ) (d : Axis) (so_far total : ℕ) → All IsAxis axes → k < length axes → so_far * grid_points (drop k axes) ≡ total → so_far * (get_or axes k d).count ≤ total
product_fits axes k d so_far total valid h whole =
    let rest : 1 ≤ grid_points (drop (k + 1) axes) = grid_points-positive (drop (k + 1) axes) (All-drop IsAxis (k + 1) axes valid) in
    let c : ℕ = (get_or axes k d).count in
    let grown : so_far * c * 1 ≤ so_far * c * grid_points (drop (k + 1) axes) = mul-le-mul_left (so_far * c) rest in
    let same : so_far * grid_points (drop k axes) ≡ so_far * (c * grid_points (drop (k + 1) axes)) = ap (λ n. so_far * n) (grid_points-drop axes k d h) in
    omega arith

-- the product, one axis on
pub product-next : (so_far here rest next total : ℕ) → so_far * next ≡ total → next ≡ here * rest → so_far * here * rest ≡ total
product-next so_far here rest next total whole same =
    let other : so_far * next ≡ so_far * (here * rest) = ap (λ n. so_far * n) same in
    omega arith

-- what is packed from an axis on
pub IsPacked-drop : (axes : List Axis) (k : ℕ) (d : Axis) (width : ℕ) → k < length axes →
    IsPacked width (drop k axes) ≡ (((get_or axes k d).step ≡ width) × IsPacked (width * (get_or axes k d).count) (drop (k + 1) axes))
IsPacked-drop axes k d width h = ap (IsPacked width) (drop_more axes k d h)
