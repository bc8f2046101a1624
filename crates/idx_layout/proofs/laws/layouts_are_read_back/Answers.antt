use Rattle.idx_layout.proofs.ArrangedLemmas.{in_hz_order-arranged}
use Rattle.idx_layout.proofs.laws.layouts_are_read_back.Goals as goal

pub returns : goal.returns
returns c = in_hz_order-arranged
