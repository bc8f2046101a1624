use Rattle.std.proofs.Common.{◌∙◌}
use Rattle.idx_core.proofs.NewLemmas.{count-times}
use Rattle.idx_core.proofs.taking.revision_of.Goals as goal

pub returns : goal.returns
returns c = c.many_of.ensures ∙ count-times c.args.time c.args.before.now
