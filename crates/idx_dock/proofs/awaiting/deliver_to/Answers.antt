use Rattle.std.proofs.Common.{◌≡◌, ◌==◌, List, true, false, sym, ap, ◌∙◌, subst}
use Rattle.std.specs.Prelude.{position}
use Rattle.idx_dock.specs.declared.awaited.Awaited.{Awaited}
use Rattle.idx_dock.proofs.DockLemmas.{none_found, unwanted_at, runs_put}
use Rattle.idx_dock.specs.Dock.{unwanted_of}
use Rattle.idx_dock.proofs.awaiting.deliver_to.Goals as goal

pub returns-in_default-clause-cases : goal.returns-in_default-clause-cases
returns-in_default-clause-cases c =
    let none = subst (λ (xs : List Awaited). position (λ a. a.piece == c.args.shipment.piece) xs ≡ _) c.deref.ensures.value (sym c.in_default.ensures) in
    ap unwanted_of (none_found c.args.shipment.piece c.args.awaited.now.items none)

pub returns-then-is_some-clause-cases : goal.returns-then-is_some-clause-cases
returns-then-is_some-clause-cases c =
    let at = c.in-Some.ensures ∙ ap (position (λ (a : Awaited). a.piece == c.args.shipment.piece)) c.deref.ensures.value in
    unwanted_at c.args.shipment.piece c.args.awaited.now.items c.in-Some.place c.index.result.now at c.index.ensures true (sym c.is_some.ensures ∙ c.if-is_some.true)

pub returns-clause-cases : goal.returns-clause-cases
returns-clause-cases c =
    let at = c.in-Some.ensures ∙ ap (position (λ (a : Awaited). a.piece == c.args.shipment.piece)) c.deref.ensures.value in
    unwanted_at c.args.shipment.piece c.args.awaited.now.items c.in-Some.place c.index.result.now at c.index.ensures false (sym c.is_some.ensures ∙ c.if-is_some.false)

pub returns-clause-kept : goal.returns-clause-kept
returns-clause-kept c =
    let at = c.in-Some.ensures ∙ ap (position (λ (a : Awaited). a.piece == c.args.shipment.piece)) c.deref.ensures.value in
    runs_put c.args.shipment.piece c.args.shipment.runs c.args.awaited.now.items c.put.new.awaited.items c.in-Some.place c.index.result.now at (c.put.ensures.items c.index.result.now)
