use Rattle.std.proofs.Common.{ap, ◌∙◌, sym, map}
use Rattle.std.specs.List.{list_any, position}
use Rattle.idx_events.specs.Volumes.{is_later, is_of}
use Rattle.idx_core_layers.specs.Division.{layers_of}
use Rattle.idx_core_steps.specs.Steps.{volume_of}
use Rattle.idx_core.proofs.PublishLemmas.{files-at, publish-done, publish-memory, publish-none, publish-passed, publish-refused, publish-slots, written-at}
use Rattle.idx_core.proofs.publishing.publish_in.Goals.{then-not-can_publish-via-then-not-can_publish, then-not-can_publish-via-else-not-can_publish+then-has_later}
use Rattle.idx_core.proofs.publishing.publish_in.Goals as goal

-- src/publishing.rt
pub returns-in_default-clause-publishing : goal.returns-in_default-clause-publishing
returns-in_default-clause-publishing c = publish-none (layers_of c.args.below.now) c.args.time c.args.revision c.args.steps.now.items c.args.hall.now (c.in_default.ensures ∙ ap (λ vs. position (is_of c.args.time c.args.revision) (map volume_of vs)) c.deref.ensures.value)

-- src/publishing.rt
pub returns-then-not-can_publish-clause-publishing : goal.returns-then-not-can_publish-clause-publishing
returns-then-not-can_publish-clause-publishing c =
    elim c.then-not-can_publish.branch [
      | then-not-can_publish-via-then-not-can_publish w ↦ publish-refused (layers_of c.args.below.now) c.args.time c.args.revision c.args.steps.now.items c.args.hall.now c.in-Some.i (c.in-Some.ensures ∙ ap (λ vs. position (is_of c.args.time c.args.revision) (map volume_of vs)) c.deref.ensures.value) c.index.result.now c.index.ensures (sym (w.if-not-can_publish.ensures (layers_of c.args.below.now)))
      | then-not-can_publish-via-else-not-can_publish+then-has_later w ↦ publish-passed (layers_of c.args.below.now) c.args.time c.args.revision c.args.steps.now.items c.args.hall.now c.in-Some.i (c.in-Some.ensures ∙ ap (λ vs. position (is_of c.args.time c.args.revision) (map volume_of vs)) c.deref.ensures.value) (sym (w.if-has_later.ensures ∙ ap (λ vs. list_any (is_later c.args.time c.args.revision) (map volume_of vs)) w.deref-else-not-can_publish.ensures.value))
    ]

-- src/publishing.rt
pub show-requires-clause-taken : goal.show-requires-clause-taken
show-requires-clause-taken c = (written-at (layers_of c.args.below.now) c.args.time c.args.revision c.args.steps.now.items c.args.hall.now c.in-Some.i (c.in-Some.ensures ∙ ap (λ vs. position (is_of c.args.time c.args.revision) (map volume_of vs)) c.deref.ensures.value) c.index.result.now c.index.ensures (sym (c.if-not-can_publish.ensures (layers_of c.args.below.now))) (sym (c.if-has_later.ensures ∙ ap (λ vs. list_any (is_later c.args.time c.args.revision) (map volume_of vs)) c.deref-else-not-can_publish.ensures.value)) c.index-2.result.now c.index-2.ensures c.requires.written).step

-- src/publishing.rt
pub show-requires-clause-whole : goal.show-requires-clause-whole
show-requires-clause-whole c = (written-at (layers_of c.args.below.now) c.args.time c.args.revision c.args.steps.now.items c.args.hall.now c.in-Some.i (c.in-Some.ensures ∙ ap (λ vs. position (is_of c.args.time c.args.revision) (map volume_of vs)) c.deref.ensures.value) c.index.result.now c.index.ensures (sym (c.if-not-can_publish.ensures (layers_of c.args.below.now))) (sym (c.if-has_later.ensures ∙ ap (λ vs. list_any (is_later c.args.time c.args.revision) (map volume_of vs)) c.deref-else-not-can_publish.ensures.value)) c.index-2.result.now c.index-2.ensures c.requires.written).whole

-- src/publishing.rt
pub show-requires-clause-written : goal.show-requires-clause-written
show-requires-clause-written c = files-at (layers_of c.args.below.now) c.args.time c.args.revision c.args.steps.now.items c.args.hall.now c.in-Some.i (c.in-Some.ensures ∙ ap (λ vs. position (is_of c.args.time c.args.revision) (map volume_of vs)) c.deref.ensures.value) c.index.result.now c.index.ensures (sym (c.if-not-can_publish.ensures (layers_of c.args.below.now))) (sym (c.if-has_later.ensures ∙ ap (λ vs. list_any (is_later c.args.time c.args.revision) (map volume_of vs)) c.deref-else-not-can_publish.ensures.value)) c.index-2.result.now c.index-2.ensures c.requires.written

-- src/publishing.rt
pub returns-in-Ok-clause-publishing : goal.returns-in-Ok-clause-publishing
returns-in-Ok-clause-publishing c =
    publish-done (layers_of c.args.below.now) c.args.time c.args.revision c.args.steps.now.items c.args.hall.now c.in-Some.i (c.in-Some.ensures ∙ ap (λ vs. position (is_of c.args.time c.args.revision) (map volume_of vs)) c.deref.ensures.value) c.index.result.now c.index.ensures (sym (c.if-not-can_publish.ensures (layers_of c.args.below.now))) (sym (c.if-has_later.ensures ∙ ap (λ vs. list_any (is_later c.args.time c.args.revision) (map volume_of vs)) c.deref-else-not-can_publish.ensures.value)) c.index-2.result.now c.index_mut.result.now c.publish.new.self c.show.new.hall c.index-2.ensures c.index_mut.ensures.value c.publish.ensures c.in-Ok.ensures.shown

-- src/publishing.rt
pub returns-in-Ok-clause-slots : goal.returns-in-Ok-clause-slots
returns-in-Ok-clause-slots c slots =
    publish-slots c.args.below.now c.args.time c.args.revision c.args.steps.now.items c.in-Some.i (c.in-Some.ensures ∙ ap (λ vs. position (is_of c.args.time c.args.revision) (map volume_of vs)) c.deref.ensures.value) c.index_mut.result.now c.publish.new.self c.index_mut.ensures.value c.publish.ensures slots

-- src/publishing.rt
pub returns-in-Err-clause-publishing : goal.returns-in-Err-clause-publishing
returns-in-Err-clause-publishing c = publish-memory (layers_of c.args.below.now) c.args.time c.args.revision c.args.steps.now.items c.args.hall.now c.in-Some.i (c.in-Some.ensures ∙ ap (λ vs. position (is_of c.args.time c.args.revision) (map volume_of vs)) c.deref.ensures.value) c.index.result.now c.index.ensures (sym (c.if-not-can_publish.ensures (layers_of c.args.below.now))) (sym (c.if-has_later.ensures ∙ ap (λ vs. list_any (is_later c.args.time c.args.revision) (map volume_of vs)) c.deref-else-not-can_publish.ensures.value)) c.show.new.hall c.in-Err.ensures.kept
