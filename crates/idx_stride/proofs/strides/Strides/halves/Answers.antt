use Rattle.std.proofs.Common.{◌≡◌, ℕ, ◌+◌, ◌-◌, ◌/◌, ◌<◌, ◌≤◌, List, [], ◌∷◌, ◌++◌, length, take, get_or, sym, ap, ◌∙◌, subst, arith, All}
use Rattle.std.proofs.lemmas.Bool.{true≢false}
use Rattle.idx_stride.specs.declared.axis.Axis.{Axis}
use Rattle.idx_stride.specs.Compact.{IsCompact}
use Rattle.idx_stride.specs.Parts.{AreHalves, IsPart, walk_part}
use Rattle.idx_stride.specs.Places.{offsets}
use Rattle.idx_stride.specs.Strides.{Walk, IsAxis, grid_points}
use Rattle.idx_stride.proofs.LayerLemmas.{take-last}
use Rattle.idx_stride.proofs.PartLemmas.{All-snoc_front, All-snoc_last, grid_points-positive, grid_points-snoc, offsets-cut, end_of-part, grid_points-part}
use Rattle.std.proofs.Math.Nat.{mul-le-mul_right}
use Rattle.idx_stride.proofs.strides.Strides.halves.Goals as goal

IsPart-part : (w v : Walk) (faster : List Axis) (a : Axis) (from count : ℕ) → IsCompact w v → v.axes ≡ faster ++ a ∷ [] → 1 ≤ count → from + count ≤ a.count → count < a.count →
    IsPart w (walk_part v faster a from count)
IsPart-part w v faster a from count h whole some fits fewer = record {
  size = h.size;
  behind = omega (arith, h.base);
  within = omega (arith, h.end, end_of-part v faster a from count whole some fits);
  fewer = omega (arith, h.points, grid_points-part v faster a from count whole h.valid.axes fewer);
}

AreHalves-parts : (w v : Walk) (faster : List Axis) (a : Axis) → IsCompact w v → v.axes ≡ faster ++ a ∷ [] →
    AreHalves w (walk_part v faster a 0 (a.count / 2)) (walk_part v faster a (a.count / 2) (a.count - a.count / 2))
AreHalves-parts w v faster a h whole =
    let wide : All (λ (b : Axis). 1 < b.count) (faster ++ a ∷ []) = subst (λ (axes : List Axis). All (λ (b : Axis). 1 < b.count) axes) whole h.wide in
    let two : 1 < a.count = All-snoc_last (λ (b : Axis). 1 < b.count) faster a wide in
    record {
      places = sym h.places ∙ ap (offsets v.base v.coarse) whole ∙ offsets-cut v.base v.coarse faster a (a.count / 2) (a.count - a.count / 2) (omega arith);
      first_part = IsPart-part w v faster a 0 (a.count / 2) h whole (omega arith) (omega arith) (omega arith);
      second_part = IsPart-part w v faster a (a.count / 2) (a.count - a.count / 2) h whole (omega arith) (omega arith) (omega arith);
    }

-- with an axis there is more than one point
some_points : (w v : Walk) (faster : List Axis) (a : Axis) → IsCompact w v → v.axes ≡ faster ++ a ∷ [] → 1 < grid_points w.axes
some_points w v faster a h whole =
    let wide : All (λ (b : Axis). 1 < b.count) (faster ++ a ∷ []) = subst (λ (axes : List Axis). All (λ (b : Axis). 1 < b.count) axes) whole h.wide in
    let valid : All IsAxis (faster ++ a ∷ []) = subst (λ (axes : List Axis). All IsAxis axes) whole h.valid.axes in
    let two : 1 < a.count = All-snoc_last (λ (b : Axis). 1 < b.count) faster a wide in
    let some : 1 ≤ grid_points faster = grid_points-positive faster (All-snoc_front IsAxis faster a valid) in
    omega (arith, h.points, ap grid_points whole, grid_points-snoc faster a, mul-le-mul_right a.count some)

abbrev none : Axis
none = record { step = 0; count = 0; phase = 0; ratio = 0 }

pub returns-clause-none : goal.returns-clause-none
returns-clause-none c =
    let axes : List Axis = c.axes.result.now in
    let whole : c.compact-walk.result.axes ≡ take (length axes - 1) axes ++ get_or axes (length axes - 1) none ∷ [] = sym (take-last axes none c.in-len1-up.len_at_least ∙ c.axes.ensures.axes) in
    let more : 1 < grid_points c.args.self.now.axes =
    some_points c.args.self.now c.compact-walk.result (take (length axes - 1) axes) (get_or axes (length axes - 1) none) c.compact-walk.ensures whole in
    ((λ e. absurd (true≢false e)), (λ one. absurd (omega arith)))

pub returns-clause-halves : goal.returns-clause-halves
returns-clause-halves c =
    let axes : List Axis = c.axes.result.now in
    let whole : c.compact-walk.result.axes ≡ take (length axes - 1) axes ++ get_or axes (length axes - 1) none ∷ [] = sym (take-last axes none c.in-len1-up.len_at_least ∙ c.axes.ensures.axes) in
    let parts : AreHalves c.args.self.now (walk_part c.compact-walk.result (take (length axes - 1) axes) (get_or axes (length axes - 1) none) 0 ((get_or axes (length axes - 1) none).count / 2)) _ =
    AreHalves-parts c.args.self.now c.compact-walk.result (take (length axes - 1) axes) (get_or axes (length axes - 1) none) c.compact-walk.ensures whole in
    subst (λ (p : Walk). AreHalves c.args.self.now p c.part-2.result) (sym c.part.ensures)
    (subst (λ (q : Walk).
    AreHalves c.args.self.now (walk_part c.compact-walk.result (take (length axes - 1) axes) (get_or axes (length axes - 1) none) 0 ((get_or axes (length axes - 1) none).count / 2)) q)
    (sym c.part-2.ensures) parts)
