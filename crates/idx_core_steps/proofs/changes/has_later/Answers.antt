use Rattle.std.proofs.Common.{sym, ◌∙◌}
use Rattle.idx_events.specs.Volumes.{is_later}
use Rattle.idx_core_steps.specs.Steps.{volume_of}
use Rattle.idx_core_steps.proofs.PlaceLemmas.{any-map}
use Rattle.idx_core_steps.proofs.changes.has_later.Goals as goal

pub returns : goal.returns
returns c = c.any_later.ensures ∙ sym (any-map volume_of (is_later c.args.time c.args.revision) c.args.steps.now)
