use Rattle.idx_volumes.proofs.JoinLemmas.{whole}
use Rattle.idx_volumes.proofs.laws.files_make_one_volume.Goals as goal

pub returns : goal.returns
returns c = whole
