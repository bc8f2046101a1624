use Rattle.idx_text.proofs.NumberLemmas.{reads_back}
use Rattle.idx_text.proofs.number.number_reads_back.Goals as goal

pub returns : goal.returns
returns c = reads_back
