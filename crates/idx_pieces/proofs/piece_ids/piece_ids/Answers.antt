use Rattle.std.proofs.Common.{◌∙◌, arith}
use Rattle.idx_pieces.proofs.IdLemmas.{whole_box}
use Rattle.idx_pieces.proofs.piece_ids.piece_ids.Goals as goal

pub loop-behind-init : goal.loop-behind-init
loop-behind-init c = record {
  ids = c.in_ok-ids.ensures.items ∙ whole_box c.args.mask.now c.args.region.now c.len-behind.result c.len-behind.ensures.count c.requires.valid.ordered;
  from = omega (arith, c.len-behind.ensures.count, c.requires.digits);
}
