use Rattle.std.proofs.Common.{◌≡◌, ℕ, List, ◌+◌, ◌-◌, ◌*◌, ◌<◌, ◌≤◌, length, drop, get_or, sym, ap, ◌∙◌, arith}
use Rattle.std.specs.List.{zip}
use Rattle.std.proofs.lemmas.List.{drop_all}
use Rattle.std.proofs.lemmas.List.Elements.{All-drop}
use Rattle.std.proofs.lemmas.Nat.{mul-le}
use Rattle.std.proofs.Math.Nat.{mul_assoc}
use Rattle.idx_geom.specs.Region.{points}
use Rattle.idx_geom.proofs.EndsLemmas.{zip_ordered_at, length-zip_ends, size-drop, size-positive, passes_limit, keeps_limit}
use Rattle.idx_geom.proofs.PointsLemmas.{size, length-points}
use Rattle.idx_geom.proofs.region.point_count.Goals as goal

pub overflow_sub-extent : goal.overflow_sub-extent
overflow_sub-extent c =
    let inside : c.loop-axis.axis < length c.args.lo.now = omega arith in
    let here : get_or c.args.lo.now c.loop-axis.axis 0 ≤ get_or c.args.hi.now c.loop-axis.axis 0 =
    zip_ordered_at c.args.lo.now c.args.hi.now c.requires.same_axes c.requires.ordered c.loop-axis.axis inside in
    omega arith

pub returns-then-extent-count : goal.returns-then-extent-count
returns-then-extent-count c =
    λ few.
    let inside : c.loop-axis.axis < length c.args.lo.now = omega arith in
    let here : get_or c.args.lo.now c.loop-axis.axis 0 ≤ get_or c.args.hi.now c.loop-axis.axis 0 =
    zip_ordered_at c.args.lo.now c.args.hi.now c.requires.same_axes c.requires.ordered c.loop-axis.axis inside in
    let bounds = zip c.args.lo.now c.args.hi.now in
    let rest = size (drop (c.loop-axis.axis + 1) bounds) in
    let width = c.get.result - c.get-in-loop-axis.result + 1 in
    let step : size (drop c.loop-axis.axis bounds) ≡ width * rest =
    size-drop c.args.lo.now c.args.hi.now c.requires.same_axes c.loop-axis.axis inside ∙ ap (λ n. n * rest) (omega arith) in
    let whole : c.loop-axis.count * (width * rest) ≡ size bounds =
    ap (λ n. c.loop-axis.count * n) (sym step) ∙ c.loop-axis.invariant.whole in
    let more : 1 ≤ rest = size-positive (drop (c.loop-axis.axis + 1) bounds) (All-drop (λ b. b.0 ≤ b.1) (c.loop-axis.axis + 1) bounds c.requires.ordered) in
    let far : 1099511627776 < size bounds =
    passes_limit 1099511627776 c.loop-axis.count width rest (size bounds) c.loop-axis.invariant.some c.if-extent-count.true more whole in
    omega (arith, length-points bounds)

pub loop-axis-preserved : goal.loop-axis-preserved
loop-axis-preserved c =
    let inside : c.loop-axis.axis < length c.args.lo.now = omega arith in
    let here : get_or c.args.lo.now c.loop-axis.axis 0 ≤ get_or c.args.hi.now c.loop-axis.axis 0 =
    zip_ordered_at c.args.lo.now c.args.hi.now c.requires.same_axes c.requires.ordered c.loop-axis.axis inside in
    let bounds = zip c.args.lo.now c.args.hi.now in
    let rest = size (drop (c.loop-axis.axis + 1) bounds) in
    let width = c.get.result - c.get-in-loop-axis.result + 1 in
    let step : size (drop c.loop-axis.axis bounds) ≡ width * rest =
    size-drop c.args.lo.now c.args.hi.now c.requires.same_axes c.loop-axis.axis inside ∙ ap (λ n. n * rest) (omega arith) in
    record {
      whole = mul_assoc c.loop-axis.count width rest ∙ ap (λ n. c.loop-axis.count * n) (sym step) ∙ c.loop-axis.invariant.whole;
      some = mul-le 1 1 c.loop-axis.count width c.loop-axis.invariant.some (omega arith);
      few = keeps_limit 1099511627776 c.loop-axis.count width c.loop-axis.invariant.some c.if-extent-count.false;
    }

pub returns : goal.returns
returns c =
    let bounds = zip c.args.lo.now c.args.hi.now in
    let past : length bounds ≤ c.loop-axis.axis = omega (arith, length-zip_ends c.args.lo.now c.args.hi.now c.requires.same_axes) in
    let all : c.loop-axis.count * 1 ≡ size bounds =
    ap (λ (bs : List (ℕ × ℕ)). c.loop-axis.count * size bs) (sym (drop_all c.loop-axis.axis bounds past)) ∙ c.loop-axis.invariant.whole in
    let counted : c.loop-axis.count ≡ length (points bounds) = omega (arith, length-points bounds) in
    (omega (arith, c.loop-axis.invariant.few), counted)
