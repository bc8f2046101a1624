use Rattle.std.proofs.Common.{ap, map, sym, ◌∙◌}
use Rattle.std.specs.List.{position}
use Rattle.idx_events.specs.Volumes.{abandon, can_abandon, is_of}
use Rattle.idx_core_steps.specs.Steps.{volume_of}
use Rattle.idx_core_steps.proofs.ChangeLemmas.{abandoned-slots, change-none, change-refused, change-done}
use Rattle.idx_core_steps.proofs.changes.abandon_in.Goals as goal

pub returns-in_default-clause-change : goal.returns-in_default-clause-change
returns-in_default-clause-change c = λ s.
    change-none (can_abandon s) (abandon s) c.args.time c.args.revision c.args.steps.now.items
    (c.in_default.ensures ∙ ap (λ vs. position (is_of c.args.time c.args.revision) (map volume_of vs)) c.deref.ensures.value)

pub returns-then-not-can_abandon-clause-change : goal.returns-then-not-can_abandon-clause-change
returns-then-not-can_abandon-clause-change c = λ s.
    change-refused (can_abandon s) (abandon s) c.args.time c.args.revision c.args.steps.now.items c.in-Some.i
    (c.in-Some.ensures ∙ ap (λ vs. position (is_of c.args.time c.args.revision) (map volume_of vs)) c.deref.ensures.value) c.index.result.now c.index.ensures (sym c.if-not-can_abandon.ensures)

pub returns-clause-change : goal.returns-clause-change
returns-clause-change c = λ s.
    change-done (can_abandon s) (abandon s) c.args.time c.args.revision c.args.steps.now.items c.in-Some.i
    (c.in-Some.ensures ∙ ap (λ vs. position (is_of c.args.time c.args.revision) (map volume_of vs)) c.deref.ensures.value) c.index.result.now c.index_mut.result.now c.index.ensures (sym c.if-not-can_abandon.ensures) c.index_mut.ensures.value
    c.abandon.new.self (ap volume_of c.abandon.ensures)

pub returns-clause-slots : goal.returns-clause-slots
returns-clause-slots c = λ d slots. abandoned-slots d c.args.steps.now.items c.in-Some.i c.index_mut.result.now c.abandon.new.self c.abandon.ensures slots
