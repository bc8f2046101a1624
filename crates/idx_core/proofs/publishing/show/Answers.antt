use Rattle.std.proofs.Common.{ap, ◌∙◌, sym}
use Rattle.std.specs.Arc.{arc_value}
use Rattle.idx_core.proofs.PublishLemmas.{after-newest}
use Rattle.idx_core.proofs.publishing.show.Goals as goal

-- src/publishing.rt
pub publish-requires-clause-after : goal.publish-requires-clause-after
publish-requires-clause-after c =
    after-newest c.args.hall.now.board (arc_value c.in_ok-shared.shared).time c.time.result c.newest-newest.result (ap (λ edition. edition.time) c.in_ok-shared.ensures.ok ∙ c.in_ok-edition.ensures.time ∙ sym c.time.ensures) c.newest-newest.ensures
