use Rattle.std.proofs.Common.{refl}
use Rattle.idx_rowmajor.specs.RowPlace.{block_points, offset_at}
use Rattle.idx_rowmajor.specs.Rows.{rows_from_hz}
use Rattle.idx_dock.proofs.examples.worked_layouts.Goals as goal

pub returns-clause-rows : goal.returns-clause-rows
unfolding block_points offset_at rows_from_hz
returns-clause-rows c = refl
