use Rattle.idx_layout.proofs.RunLemmas.{behind_begins}
use Rattle.idx_layout.proofs.run.Run.behind.Goals as goal

pub returns-then-number-eq0-clause-begins : goal.returns-then-number-eq0-clause-begins
returns-then-number-eq0-clause-begins c = behind_begins c.args.self.now.number c.args.self.now.height c.if-number-eq0.true
