use Rattle.std.proofs.Common.{length}
use Rattle.std.specs.List.{flat_map, range_with_len}
use Rattle.idx_stride.specs.Written.{WritesAt}
use Rattle.idx_stride.proofs.LayerLemmas.{layer}
use Rattle.idx_stride.proofs.gather.+gather.Given as goal

abbrev pub decreases-gather : goal.decreases-gather
decreases-gather g l = length l.axes.now

-- the samples of the coordinates so far are written
abbrev pub invariant-loop-k : goal.invariant-loop-k
invariant-loop-k g l = WritesAt l.at l.next (flat_map (layer (g.S.Sample.bytes l.sample) l.window l.base l.coarse l.faster l.slowest) (range_with_len 0 l.k)) l.initial.out l.out
