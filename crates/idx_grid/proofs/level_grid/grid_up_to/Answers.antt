use Rattle.std.proofs.Common.{replicate, sym, ap, ◌∙◌, arith}
use Rattle.std.proofs.lemmas.List.{take-replicate}
use Rattle.idx_hz.specs.Stride.{stride}
use Rattle.idx_grid.specs.LevelGrid.{strides, IsGridUpTo}
use Rattle.idx_grid.proofs.LevelGridLemmas.{on_grid_up_to_iff, positive-strides, take_known}
use Rattle.idx_grid.proofs.level_grid.grid_up_to.Goals as goal
use Rattle.idx_grid.proofs.level_grid.grid_up_to.Goals.{After-point_of-2}

is_grid : (c : After-point_of-2) → IsGridUpTo c.args.mask.now c.args.axes c.args.h (record { first = c.point_of.result; step = c.point_of-2.result })
is_grid c = record {
  first = c.point_of.ensures ∙ take-replicate c.args.axes 5 0 (omega (arith, c.requires.axes));
  step = c.point_of-2.ensures ∙ take_known c.strides.result (stride c.args.mask.now c.args.h) c.args.axes (omega (arith, c.requires.axes, c.strides.ensures.room)) c.strides.ensures.value;
}

pub returns-clause-points : goal.returns-clause-points
returns-clause-points c p size has =
    on_grid_up_to_iff c.args.mask.now p c.point_of.result c.point_of-2.result c.args.h has.named
    ((is_grid c).first ∙ ap (λ n. replicate n 0) (sym size)) ((is_grid c).step ∙ ap (strides c.args.mask.now c.args.h) (sym size))

pub returns-clause-value : goal.returns-clause-value
returns-clause-value c = is_grid c

pub returns-clause-positive : goal.returns-clause-positive
returns-clause-positive c = positive-strides c.args.mask.now c.point_of-2.result c.args.h c.args.axes (is_grid c).step
