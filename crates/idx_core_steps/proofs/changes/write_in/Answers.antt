use Rattle.std.proofs.Common.{ap, map, sym, ◌∙◌}
use Rattle.std.specs.List.{position}
use Rattle.idx_events.specs.Volumes.{can_write, is_of, seal}
use Rattle.idx_core_layers.specs.Division.{layers_of}
use Rattle.idx_core_steps.specs.Steps.{volume_of}
use Rattle.idx_core_steps.proofs.ChangeLemmas.{change-none, change-refused, change-memory, change-done, files-at, read-found, slots-set, step-at}
use Rattle.idx_core_steps.proofs.changes.write_in.Goals as goal

pub returns-in_default-clause-change : goal.returns-in_default-clause-change
returns-in_default-clause-change c =
    change-none (can_write (layers_of c.args.below.now) c.args.file) (seal (layers_of c.args.below.now) c.args.file) c.args.time c.args.revision c.args.steps.now.items
    (c.in_default.ensures ∙ ap (λ vs. position (is_of c.args.time c.args.revision) (map volume_of vs)) c.deref.ensures.value)

pub can_write-requires-clause-files : goal.can_write-requires-clause-files
can_write-requires-clause-files c =
    files-at c.args.below.now c.args.steps.now.items c.in-Some.i c.args.time c.args.revision c.index.result.now (read-found (can_write (layers_of c.args.below.now) c.args.file) (seal (layers_of c.args.below.now) c.args.file) c.args.time c.args.revision c.args.steps.now.items c.in-Some.i (c.in-Some.ensures ∙ ap (λ vs. position (is_of c.args.time c.args.revision) (map volume_of vs)) c.deref.ensures.value) c.index.result.now c.index.ensures) c.requires.docks

pub returns-then-not-can_write-clause-change : goal.returns-then-not-can_write-clause-change
returns-then-not-can_write-clause-change c =
    change-refused (can_write (layers_of c.args.below.now) c.args.file) (seal (layers_of c.args.below.now) c.args.file) c.args.time c.args.revision c.args.steps.now.items c.in-Some.i (c.in-Some.ensures ∙ ap (λ vs. position (is_of c.args.time c.args.revision) (map volume_of vs)) c.deref.ensures.value) c.index.result.now c.index.ensures (sym c.if-not-can_write.ensures)

pub seal-requires-clause-files : goal.seal-requires-clause-files
seal-requires-clause-files c =
    files-at c.args.below.now c.args.steps.now.items c.in-Some.i c.args.time c.args.revision c.index_mut.result.now (read-found (can_write (layers_of c.args.below.now) c.args.file) (seal (layers_of c.args.below.now) c.args.file) c.args.time c.args.revision c.args.steps.now.items c.in-Some.i (c.in-Some.ensures ∙ ap (λ vs. position (is_of c.args.time c.args.revision) (map volume_of vs)) c.deref.ensures.value) c.index_mut.result.now c.index_mut.ensures.value) c.requires.docks

pub seal-requires-clause-step : goal.seal-requires-clause-step
seal-requires-clause-step c =
    step-at c.args.below.now c.args.steps.now.items c.in-Some.i c.args.time c.args.revision c.index_mut.result.now (read-found (can_write (layers_of c.args.below.now) c.args.file) (seal (layers_of c.args.below.now) c.args.file) c.args.time c.args.revision c.args.steps.now.items c.in-Some.i (c.in-Some.ensures ∙ ap (λ vs. position (is_of c.args.time c.args.revision) (map volume_of vs)) c.deref.ensures.value) c.index_mut.result.now c.index_mut.ensures.value) c.requires.taken

pub returns-in-Ok-clause-change : goal.returns-in-Ok-clause-change
returns-in-Ok-clause-change c =
    change-done (can_write (layers_of c.args.below.now) c.args.file) (seal (layers_of c.args.below.now) c.args.file) c.args.time c.args.revision c.args.steps.now.items c.in-Some.i (c.in-Some.ensures ∙ ap (λ vs. position (is_of c.args.time c.args.revision) (map volume_of vs)) c.deref.ensures.value) c.index.result.now c.index_mut.result.now c.index.ensures (sym c.if-not-can_write.ensures) c.index_mut.ensures.value
    c.seal.new.self c.in-Ok.ensures.ok

pub returns-in-Ok-clause-slots : goal.returns-in-Ok-clause-slots
returns-in-Ok-clause-slots c = slots-set c.args.below.now c.args.steps.now.items c.in-Some.i c.seal.new.self c.in-Ok.ensures.slots c.requires.slots

pub returns-in-Err-clause-change : goal.returns-in-Err-clause-change
returns-in-Err-clause-change c =
    change-memory (can_write (layers_of c.args.below.now) c.args.file) (seal (layers_of c.args.below.now) c.args.file) c.args.time c.args.revision c.args.steps.now.items c.in-Some.i (c.in-Some.ensures ∙ ap (λ vs. position (is_of c.args.time c.args.revision) (map volume_of vs)) c.deref.ensures.value) c.index.result.now c.index_mut.result.now c.index.ensures (sym c.if-not-can_write.ensures) c.index_mut.ensures.value
    c.seal.new.self c.in-Err.ensures.err
