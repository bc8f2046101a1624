use Rattle.std.proofs.Common.{rules}
use Rattle.std.specs.Arc.{arc_value}
use Rattle.idx_ingest.proofs.PublishLemmas.{follows}
use Rattle.idx_ingest.proofs.publishing.publish_newest.Goals as goal

pub publish-published-requires-clause-after : goal.publish-published-requires-clause-after
publish-published-requires-clause-after g c =
    follows c.get_mut-hall.result.now.board (g.E.Blocks.time (arc_value c.args.edition)) c.newest-after.result (search rules)
