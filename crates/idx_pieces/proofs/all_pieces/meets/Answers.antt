use Rattle.std.proofs.Common.{◌∙◌}
use Rattle.idx_pieces.proofs.BoundsLemmas.{found_iff_meets}
use Rattle.idx_pieces.proofs.all_pieces.meets.Goals as goal

pub returns : goal.returns
returns c = c.is_some.ensures ∙ found_iff_meets c.args.region.now c.args.other.now _ c.meet.result c.requires c.meet.ensures.bounds
