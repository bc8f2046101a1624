use Rattle.idx_test_writing.proofs.FolderLemmas.{admits_begun}
use Rattle.idx_test_writing.proofs.states.Docked.seal.Goals as goal

pub seal-requires-clause-admits : goal.seal-requires-clause-admits
seal-requires-clause-admits g c κs within =
    let opening = c.args.self.docking.opening in
    admits_begun opening.header opening.step c.args.self.bay.begun c.args.self.timed c.args.self.begun
