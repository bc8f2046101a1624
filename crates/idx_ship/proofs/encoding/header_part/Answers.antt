use Rattle.idx_ship.proofs.ShipmentLemmas.{part_has}
use Rattle.idx_ship.proofs.encoding.header_part.Goals as goal

pub returns-clause-address : goal.returns-clause-address
returns-clause-address c = part_has c.args.header.now c.args.region.now c.axes.ensures.valid c.axes-2.ensures.valid c.requires
