use Rattle.std.proofs.Common.{◌-◌, ◌≡◌, ◌+◌, ◌%◌, ◌≤◌, ◌<◌, true}
use Rattle.std.specs.List.{flat_map, range_with_len}
use Rattle.idx_stride.specs.Written.{WritesAt}
use Rattle.idx_stride.proofs.RowLemmas.{piece}
use Rattle.idx_stride.proofs.row.between_coarse.Given as goal

-- the samples of the coordinates so far are written, and so many fine ones come next
abbrev pub invariant-loop-coordinate : goal.invariant-loop-coordinate
invariant-loop-coordinate g l = record {
  within : l.coordinate ≤ l.axis.count;
  writes : WritesAt l.at l.next (flat_map (piece (g.S.Sample.bytes l.sample) l.window l.base true l.axis) (range_with_len 0 l.coordinate)) l.initial.out l.out;
  coarse : l.coordinate < l.axis.count → (l.axis.phase + l.coordinate + l.fine) % l.axis.ratio ≡ 0;
  few : l.fine < l.axis.ratio;
}

abbrev pub decreases-loop-coordinate : goal.decreases-loop-coordinate
decreases-loop-coordinate g l = l.axis.count - l.coordinate
