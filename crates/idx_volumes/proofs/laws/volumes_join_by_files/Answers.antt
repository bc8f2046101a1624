use Rattle.idx_volumes.proofs.JoinLemmas.{join}
use Rattle.idx_volumes.proofs.laws.volumes_join_by_files.Goals as goal

pub returns : goal.returns
returns c = join
