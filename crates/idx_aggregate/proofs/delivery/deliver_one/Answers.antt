use Rattle.std.proofs.Common.{◌≡◌, ◌==◌, ◌∙◌, List, ap, sym, subst}
use Rattle.std.specs.Prelude.{position}
use Rattle.idx_dock.specs.Dock.{DockValue}
use Rattle.idx_aggregate.proofs.DeliveryLemmas.{put_at, put_nowhere, taken_at}
use Rattle.idx_aggregate.proofs.delivery.deliver_one.Goals as goal

pub put-requires-clause-takes : goal.put-requires-clause-takes
put-requires-clause-takes c =
    let at = c.in-Some.ensures ∙ ap (position (λ (d : DockValue). d.file == c.args.shipment.file)) c.deref.ensures.value in
    taken_at c.args.shipment c.args.docks.now.items c.in-Some.place at c.requires.takes

pub returns-in-Some : goal.returns-in-Some
returns-in-Some c =
    let at = c.in-Some.ensures ∙ ap (position (λ (d : DockValue). d.file == c.args.shipment.file)) c.deref.ensures.value in
    put_at c.args.shipment c.args.docks.now.items c.put.new.docks.items c.in-Some.place at c.requires.apart c.put.ensures

pub returns-in_default : goal.returns-in_default
returns-in_default c =
    let none = subst (λ (xs : List DockValue). position (λ d. d.file == c.args.shipment.file) xs ≡ _) c.deref.ensures.value (sym c.in_default.ensures) in
    put_nowhere c.args.shipment c.args.docks.now.items none
