use Rattle.idx_hall.proofs.NewestLemmas.{none-newer}
use Rattle.idx_hall.proofs.hall.Hall.newer_than.Goals as goal

pub returns-else-eq-clause-none : goal.returns-else-eq-clause-none
returns-else-eq-clause-none g c = none-newer c.args.self.now.board c.args.time c.args.after c.newest-newest.result c.requires c.newest-newest.ensures
