use Rattle.std.proofs.Common.{◌≡◌, ◌*◌, ◌^◌}
use Rattle.idx_scatter.specs.Scatter.{AreFirstScattered}
use Rattle.idx_scatter.proofs.first_block.scatter_first_block.Given as goal

-- the levels so far are put
abbrev pub invariant-loop-level : goal.invariant-loop-level
invariant-loop-level l = record {
  front : l.put ≡ l.size * 2 ^ l.level;
  made : AreFirstScattered l.order (2 ^ l.level) l.size l.samples l.fn.into l.into;
}
