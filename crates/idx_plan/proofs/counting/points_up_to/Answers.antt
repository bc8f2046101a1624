use Rattle.std.proofs.Common.{◌∙◌}
use Rattle.idx_plan.proofs.CountingLemmas.{counted_in_box, named_axes}
use Rattle.idx_plan.proofs.counting.points_up_to.Goals as goal

pub grid_up_to-requires-clause-named : goal.grid_up_to-requires-clause-named
grid_up_to-requires-clause-named c =
    named_axes c.args.header.now c.args.region.now c.mask.result c.axes.result c.mask.ensures.value c.mask.ensures.valid c.requires.upper c.axes.ensures.count

pub returns-clause-count : goal.returns-clause-count
returns-clause-count c =
    c.count_in.ensures.count
    ∙ counted_in_box c.args.header.now c.args.region.now c.mask.result c.axes.result c.grid_up_to.result c.args.hi c.mask.ensures.value c.mask.ensures.valid c.requires.upper c.axes.ensures.count c.grid_up_to.ensures.points
