use Rattle.idx_header.proofs.RoundTrip.{read_back}
use Rattle.idx_header.proofs.laws.texts_read_back.Goals as goal

pub returns : goal.returns
returns c = read_back
