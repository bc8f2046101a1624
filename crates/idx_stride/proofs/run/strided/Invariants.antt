use Rattle.std.proofs.Common.{◌≡◌}
use Rattle.idx_stride.specs.Places.{samples_at, progression}
use Rattle.idx_lanes.specs.Written.{written}
use Rattle.idx_stride.proofs.run.strided.Given as goal

-- the samples so far are written
abbrev pub invariant-loop-k : goal.invariant-loop-k
invariant-loop-k g l = l.out ≡ written l.at (samples_at (g.S.Sample.bytes l.sample) l.window (progression l.first l.step l.k)) l.initial.out
