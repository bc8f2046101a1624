use Rattle.std.proofs.lemmas.List.Elements.{All-contains}
use Rattle.idx_ship.specs.Shipments.{IsShipment}
use Rattle.idx_core_deliver.proofs.FileLemmas.{is_among}
use Rattle.idx_core_deliver.proofs.shipping.shipment_of.Goals as goal

pub for_file-requires : goal.for_file-requires
for_file-requires c =
    is_among c.args.header.now c.args.filled c.in-Ok.shipments.items c.args.file c.axes-valid.ensures.valid c.requires.file c.requires.reaches c.in-Ok.ensures.ok

pub returns-in-Ok-clause-shipment : goal.returns-in-Ok-clause-shipment
returns-in-Ok-clause-shipment c =
    All-contains (IsShipment c.args.header.now c.args.filled) c.in-Ok.shipments.items c.for_file.result c.in-Ok.ensures.ok.each c.for_file.ensures.among
