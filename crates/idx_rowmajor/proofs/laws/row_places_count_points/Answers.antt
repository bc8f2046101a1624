use Rattle.idx_rowmajor.proofs.RowPlaceLemmas.{row_place-rank}
use Rattle.idx_rowmajor.proofs.laws.row_places_count_points.Goals as goal

pub returns : goal.returns
returns c mask p axes bits block offset is small len has address =
    row_place-rank mask axes bits block offset p small is.named (record { len = len; has = has; address = address })
