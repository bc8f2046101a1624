use Rattle.std.proofs.Common.{◌≡◌, ◌∙◌, List, [], map, ap, arith}
use Rattle.std.proofs.lemmas.List.{nil_from_length}
use Rattle.idx_pieces.specs.declared.shipment.Shipment.{Shipment}
use Rattle.idx_aggregate.specs.Shipping.{with_shipments}
use Rattle.idx_aggregate.proofs.DeliveryLemmas.{taking_all, taking_next}
use Rattle.idx_aggregate.proofs.delivery.deliver_all.Goals as goal

pub loop-shipment-preserved : goal.loop-shipment-preserved
loop-shipment-preserved c =
    taking_next c.into_iter-shipment-iterator.result.rest.items c.loop-shipment.shipment-iterator.rest.items c.next.new.self.rest.items c.in-Some.shipment c.args.docks.now.items c.loop-shipment.docks.items c.deliver_one.new.docks.items
    c.in-Some.ensures.steps.0 c.deliver_one.ensures c.loop-shipment.invariant

pub returns : goal.returns
returns c =
    let rest = c.loop-shipment.shipment-iterator.rest in
    let none : rest.items ≡ [] = nil_from_length rest.items (omega (arith, rest.ok.0, c.in-None.ensures.steps.0)) in
    taking_all c.into_iter-shipment-iterator.result.rest.items rest.items c.args.docks.now.items c.loop-shipment.docks.items none c.loop-shipment.invariant
    ∙ ap (λ (shipments : List Shipment). map (with_shipments shipments) c.args.docks.now.items) c.into_iter-shipment-iterator.ensures.into_iter_gives.0
