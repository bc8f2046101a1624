use Rattle.std.proofs.Common.{◌-◌, ◌∙◌, sym, ap, arith}
use Rattle.idx_hz.specs.Stride.{stride}
use Rattle.idx_grid.specs.LevelGrid.{strides, first_on, first_of, IsGridAt}
use Rattle.idx_grid.proofs.LevelGridLemmas.{on_grid_at_iff, positive-strides, take_known}
use Rattle.idx_grid.proofs.level_grid.grid_at.Goals as goal
use Rattle.idx_grid.proofs.level_grid.grid_at.Goals.{After-point_of-2}

is_grid : (c : After-point_of-2) → IsGridAt c.args.mask.now c.args.axes c.args.h (record { first = c.point_of.result; step = c.point_of-2.result })
is_grid c = record {
  first = c.point_of.ensures ∙ take_known c.first_of_level.result (first_on c.args.mask.now c.args.h) c.args.axes (omega (arith, c.requires.axes, c.first_of_level.ensures.room)) c.first_of_level.ensures.value;
  step = c.point_of-2.ensures ∙ take_known c.strides.result (stride c.args.mask.now c.saturating_sub.result) c.args.axes (omega (arith, c.requires.axes, c.strides.ensures.room)) c.strides.ensures.value
      ∙ ap (λ h. strides c.args.mask.now h c.args.axes) c.saturating_sub.ensures;
}

pub returns-clause-points : goal.returns-clause-points
returns-clause-points c p size has =
    on_grid_at_iff c.args.mask.now p c.point_of.result c.point_of-2.result c.args.h has.named c.requires.deepest
    ((is_grid c).first ∙ ap (first_of c.args.mask.now c.args.h) (sym size)) ((is_grid c).step ∙ ap (strides c.args.mask.now (c.args.h - 1)) (sym size))

pub returns-clause-value : goal.returns-clause-value
returns-clause-value c = is_grid c

pub returns-clause-positive : goal.returns-clause-positive
returns-clause-positive c = positive-strides c.args.mask.now c.point_of-2.result (c.args.h - 1) c.args.axes (is_grid c).step
