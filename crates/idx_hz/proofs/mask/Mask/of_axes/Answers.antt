use Rattle.idx_hz.proofs.GuessSteps.{IsStored-axes}
use Rattle.idx_hz.proofs.mask.Mask.of_axes.Goals as goal

pub invariant_of-result : goal.invariant_of-result
invariant_of-result c = IsStored-axes c.args.axes.now c.copy_from_slice.new.self c.requires c.copy_from_slice.ensures.after
