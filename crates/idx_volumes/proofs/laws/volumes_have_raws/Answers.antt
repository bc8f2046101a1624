use Rattle.idx_volumes.proofs.JoinLemmas.{raw_is}
use Rattle.idx_volumes.proofs.laws.volumes_have_raws.Goals as goal

pub returns : goal.returns
returns c = raw_is
