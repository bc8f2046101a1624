use Rattle.std.proofs.Common.{refl}
use Rattle.idx_rowmajor.specs.RowPlace.{block_points, row_place, offset_at}
use Rattle.idx_rowmajor.specs.Rows.{hz_from_rows, rows_from_hz}
use Rattle.idx_rowmajor.proofs.examples.worked_space.Goals as goal

pub returns : goal.returns
unfolding block_points row_place offset_at hz_from_rows rows_from_hz
returns c = record { places = refl; offsets = refl; rows = refl; hz = refl; first = refl }
