use Rattle.std.proofs.Common.{ap, ◌∙◌, map}
use Rattle.std.specs.List.{filter_map}
use Rattle.idx_events.specs.Volumes.{sealed_files}
use Rattle.idx_core_steps.specs.Steps.{SlotValue, StepValue, slot_of}
use Rattle.idx_core_steps.proofs.EditionLemmas.{sealed-map}
use Rattle.idx_core_steps.proofs.step.Step.written_files.Goals as goal

pub returns : goal.returns
returns c =
    c.in_ok-files.ensures ∙ ap (filter_map (λ (s : SlotValue). s.sealed)) c.deref.ensures.value
    ∙ sealed-map c.self.inside.slots.items ∙ ap (λ (v : StepValue). sealed_files (map slot_of v.slots)) c.self.view_is
