use Rattle.std.proofs.Common.{sym, ◌∙◌}
use Rattle.idx_events.specs.Volumes.{is_of}
use Rattle.idx_core_steps.specs.Steps.{volume_of}
use Rattle.idx_core_steps.proofs.PlaceLemmas.{position-map}
use Rattle.idx_core_steps.proofs.changes.step_at.Goals as goal

pub returns : goal.returns
returns c = c.place_of.ensures ∙ sym (position-map volume_of (is_of c.args.time c.args.revision) c.args.steps.now)
