use Rattle.std.proofs.Common.{ap}
use Rattle.idx_core_steps.proofs.FreshLemmas.{fresh-are, fresh-volume}
use Rattle.idx_core_steps.proofs.step.Step.new.Goals as goal

pub returns-clause-volume : goal.returns-clause-volume
returns-clause-volume c =
    fresh-volume c.args.below.now c.args.time c.args.revision c.args.raw c.new.result.bytes c.new-2.result.items c.new-3.result.items c.in_ok-fresh_slots.field-0.items
    (ap (λ s. s.bytes) c.new.ensures) c.new-2.ensures.items c.new-3.ensures.items c.in_ok-fresh_slots.ensures

pub returns-clause-slots : goal.returns-clause-slots
returns-clause-slots c = fresh-are c.args.below.now c.new.result.bytes c.new-3.result.items c.in_ok-fresh_slots.field-0.items c.new-3.ensures.items c.in_ok-fresh_slots.ensures
