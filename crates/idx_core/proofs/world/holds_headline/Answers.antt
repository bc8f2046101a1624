use Rattle.std.proofs.Common.{subst}
use Rattle.idx_core_layers.specs.Division.{layers_of}
use Rattle.idx_core_model.specs.Headline.{HeadlineHolds}
use Rattle.idx_core_model.proofs.HeadlineLemmas.{headline}
use Rattle.idx_events.specs.WorldOk.{WorldOk}
use Rattle.idx_core.specs.World.{CoreValue}
use Rattle.idx_core.proofs.world.holds_headline.Goals as goal

pub returns-clause-headline : goal.returns-clause-headline
returns-clause-headline c = subst (λ (v : CoreValue). HeadlineHolds v.layers.header v.world) c.world.view_is
    (headline c.world.inside.below.header c.world.inside.below.digits c.world.inside.below.ranks _ c.world.invariant.world)

pub returns-clause-kept : goal.returns-clause-kept
returns-clause-kept c = subst (λ (v : CoreValue). WorldOk (layers_of v.layers) v.world) c.world.view_is c.world.invariant.world
