use Rattle.idx_aggregate.specs.Shipping.{AreTaking}
use Rattle.idx_aggregate.proofs.delivery.deliver_all.Given as goal

abbrev pub invariant-loop-shipment : goal.invariant-loop-shipment
invariant-loop-shipment l = AreTaking l.initial.shipment-iterator.rest.items l.shipment-iterator.rest.items l.initial.docks.items l.docks.items
