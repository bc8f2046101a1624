use Rattle.std.proofs.Common.{◌≡◌, ℕ, ◌+◌, ◌*◌, ◌<◌, List}
use Rattle.idx_lanes.specs.Spread.{part_after}
use Rattle.idx_scatter.specs.Moves.{AreApart}
use Rattle.idx_scatter.specs.Scatter.{sample_of}
use Rattle.idx_scatter.proofs.walk.even_row.Given as goal

-- the first samples are placed
abbrev pub invariant-loop-k : goal.invariant-loop-k
invariant-loop-k g l = record {
  part : l.part ≡ part_after l.lane.bits l.lane.first l.k;
  made : (want : ℕ → List ℕ) → ((k : ℕ) → k < l.lane.count → sample_of (g.S.Sample.bytes l.sample) l.samples (l.place + part_after l.lane.bits l.lane.first k) ≡ want (l.first + k * l.more)) →
      AreApart want (g.S.Sample.bytes l.sample) l.k l.first l.more l.initial.into l.into;
}
