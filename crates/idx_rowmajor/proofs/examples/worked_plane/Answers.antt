use Rattle.std.proofs.Common.{refl}
use Rattle.idx_rowmajor.specs.RowPlace.{block_points, row_place, offset_at}
use Rattle.idx_rowmajor.specs.Rows.{hz_from_rows, rows_from_hz}
use Rattle.idx_rowmajor.proofs.examples.worked_plane.Goals as goal

pub returns : goal.returns
unfolding block_points row_place offset_at hz_from_rows rows_from_hz
returns c = record { points = refl; places = refl; first = refl; second = refl; back = refl }
