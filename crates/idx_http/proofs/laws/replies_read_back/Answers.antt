use Rattle.idx_http.proofs.ReadBackLemmas.{read_back}
use Rattle.idx_http.proofs.laws.replies_read_back.Goals as goal

pub returns : goal.returns
returns c = read_back
