use Rattle.idx_stride.specs.Strides.{grid_points}
use Rattle.idx_raw.proofs.read.+read_part.Given as goal

abbrev pub decreases-read_part : goal.decreases-read_part
decreases-read_part g l = grid_points l.strides.now.axes
