use Rattle.std.proofs.Common.{◌≡◌, ◌≤◌, ◌^◌, ◌-◌, ◌+◌, get_or, ap, ◌∙◌, arith}
use Rattle.std.proofs.lemmas.List.Elements.{All-from_get_or}
use Rattle.idx_hz.specs.Stride.{stride}
use Rattle.idx_grid.proofs.LevelGridLemmas.{stride-le, strides_more}
use Rattle.idx_grid.proofs.level_grid.strides.Goals as goal
use Rattle.idx_grid.proofs.level_grid.strides.Goals.{After-loop-place}

pub overflow_mul-strides : goal.overflow_mul-strides
overflow_mul-strides c =
    omega (arith, c.loop-place.invariant.known.value c.axis.result c.axis.ensures.small, stride-le c.args.mask.now c.loop-place.place c.axis.result c.len-place.ensures.valid.few)

pub loop-place-preserved : goal.loop-place-preserved
loop-place-preserved c =
    let place = c.loop-place.place - 1 in
    let same : place + 1 - 1 ≡ place = omega arith in
    record {
      known = strides_more c.args.mask.now c.loop-place.strides c.loop-place.place place c.axis.result (omega arith) (omega arith)
          (c.axis.ensures.value ∙ ap (λ n. get_or c.args.mask.now n 0) same) c.axis.ensures.small c.loop-place.invariant.known;
      from = omega arith;
    }

-- all places behind the level are read
pub returns-clause-value : goal.returns-clause-value
returns-clause-value c a within =
    let end : c.loop-place.place ≡ c.args.h = omega (arith, c.loop-place.invariant.from) in
    c.loop-place.invariant.known.value a (omega (arith, c.loop-place.invariant.known.room)) ∙ ap (λ n. stride c.args.mask.now n a) end

pub returns-clause-small : goal.returns-clause-small
returns-clause-small c =
    All-from_get_or (λ x. x ≤ 2 ^ 40) c.loop-place.strides 0
    (λ a within. omega (arith, c.loop-place.invariant.known.value a (omega (arith, c.loop-place.invariant.known.room)), stride-le c.args.mask.now c.loop-place.place a c.len-place.ensures.valid.few))
