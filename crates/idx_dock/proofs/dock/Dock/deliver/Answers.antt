use Rattle.std.proofs.Common.{◌≡◌, ◌∙◌, sym, subst, Some, None}
use Rattle.std.specs.Prelude.{MatchResult}
use Rattle.idx_dock.specs.Dock.{DockValue, FitsDock, unwanted}
use Rattle.idx_dock.proofs.DockLemmas.{dock_kept, unwanted_cases}
use Rattle.idx_dock.proofs.dock.Dock.deliver.Goals as goal

pub invariant_of-self : goal.invariant_of-self
invariant_of-self c =
    let kept = dock_kept c.self.inside.header c.self.inside.file c.self.inside.awaited.items c.deliver_to.new.awaited.items c.args.shipment c.deliver_to.result c.self.invariant.0
    (sym c.if-shipment-self.false) (subst (λ d. FitsDock d c.args.shipment) (sym c.self.view_is) c.requires.piece) c.deliver_to.ensures.kept c.deliver_to.ensures.same in
    (kept, record { counts_is = c.self.invariant.1.counts_is ∙ sym c.deliver_to.ensures.len; empty = c.self.invariant.1.empty })

pub returns-clause-cases : goal.returns-clause-cases
returns-clause-cases c =
    subst (λ (d : DockValue). MatchResult c.deliver_to.result (λ _. unwanted d c.args.shipment ≡ None) (λ back. unwanted d c.args.shipment ≡ Some back.1)) c.self.view_is
    (unwanted_cases c.self.inside.header c.self.inside.file c.self.inside.awaited.items c.args.shipment c.deliver_to.result c.if-shipment-self.false c.deliver_to.ensures.cases)
