use Rattle.std.proofs.Common.{ap}
use Rattle.idx_dock.specs.Dock.{dock_of}
use Rattle.idx_dock.proofs.CompleteLemmas.{swapped}
use Rattle.idx_dock.proofs.laws.deliveries_commute.Goals as goal

pub returns : goal.returns
returns c = λ d s t other. ap (dock_of d.header d.file) (swapped s.piece t.piece s.runs t.runs other d.awaited)
