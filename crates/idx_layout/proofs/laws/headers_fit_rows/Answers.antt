use Rattle.idx_layout.proofs.HeaderLemmas.{fits_rows}
use Rattle.idx_layout.proofs.laws.headers_fit_rows.Goals as goal

pub returns : goal.returns
returns c = fits_rows
