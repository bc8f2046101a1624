use Rattle.std.proofs.Common.{ap, map, sym, ◌∙◌}
use Rattle.std.specs.List.{position}
use Rattle.idx_events.specs.Volumes.{can_give, give, is_of}
use Rattle.idx_core_layers.specs.Division.{layers_of}
use Rattle.idx_core_steps.specs.Steps.{volume_of}
use Rattle.idx_core_steps.proofs.ChangeLemmas.{change-none, change-refused, change-memory, change-done, given-slots, is-inside}
use Rattle.idx_core_steps.proofs.changes.give_in.Goals as goal

pub returns-in_default-clause-change : goal.returns-in_default-clause-change
returns-in_default-clause-change c =
    change-none (can_give (layers_of c.args.below.now) c.args.rank c.args.piece) (give (layers_of c.args.below.now) c.args.rank c.args.piece) c.args.time c.args.revision c.args.steps.now.items
    (c.in_default.ensures ∙ ap (λ vs. position (is_of c.args.time c.args.revision) (map volume_of vs)) c.deref.ensures.value)

pub returns-then-not-can_give-clause-change : goal.returns-then-not-can_give-clause-change
returns-then-not-can_give-clause-change c =
    change-refused (can_give (layers_of c.args.below.now) c.args.rank c.args.piece) (give (layers_of c.args.below.now) c.args.rank c.args.piece) c.args.time c.args.revision c.args.steps.now.items c.in-Some.i
    (c.in-Some.ensures ∙ ap (λ vs. position (is_of c.args.time c.args.revision) (map volume_of vs)) c.deref.ensures.value) c.index.result.now c.index.ensures (sym c.if-not-can_give.ensures)

pub returns-in-Ok-clause-change : goal.returns-in-Ok-clause-change
returns-in-Ok-clause-change c =
    change-done (can_give (layers_of c.args.below.now) c.args.rank c.args.piece) (give (layers_of c.args.below.now) c.args.rank c.args.piece) c.args.time c.args.revision c.args.steps.now.items c.in-Some.i
    (c.in-Some.ensures ∙ ap (λ vs. position (is_of c.args.time c.args.revision) (map volume_of vs)) c.deref.ensures.value) c.index.result.now c.index_mut.result.now c.index.ensures (sym c.if-not-can_give.ensures) c.index_mut.ensures.value
    c.give.new.self (ap volume_of c.in-Ok.ensures.ok)

pub returns-in-Err-clause-change : goal.returns-in-Err-clause-change
returns-in-Err-clause-change c =
    change-memory (can_give (layers_of c.args.below.now) c.args.rank c.args.piece) (give (layers_of c.args.below.now) c.args.rank c.args.piece) c.args.time c.args.revision c.args.steps.now.items c.in-Some.i
    (c.in-Some.ensures ∙ ap (λ vs. position (is_of c.args.time c.args.revision) (map volume_of vs)) c.deref.ensures.value) c.index.result.now c.index_mut.result.now c.index.ensures (sym c.if-not-can_give.ensures) c.index_mut.ensures.value
    c.give.new.self c.in-Err.ensures.err

pub returns-in-Ok-clause-slots : goal.returns-in-Ok-clause-slots
returns-in-Ok-clause-slots c =
    given-slots c.args.below.now c.args.steps.now.items c.in-Some.i c.args.rank c.args.piece c.index_mut.result.now c.give.new.self c.index_mut.ensures.value
    (is-inside (can_give (layers_of c.args.below.now) c.args.rank c.args.piece) (give (layers_of c.args.below.now) c.args.rank c.args.piece) c.args.time c.args.revision c.args.steps.now.items c.in-Some.i
    (c.in-Some.ensures ∙ ap (λ vs. position (is_of c.args.time c.args.revision) (map volume_of vs)) c.deref.ensures.value) c.index.result.now)
    c.in-Ok.ensures.ok
