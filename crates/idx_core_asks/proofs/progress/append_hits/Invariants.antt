use Rattle.std.proofs.Common.{◌≡◌, ◌++◌, take}
use Rattle.idx_events.specs.Queries.{hits}
use Rattle.idx_core_asks.specs.Asked.{block_numbers}
use Rattle.idx_core_asks.proofs.progress.append_hits.Given as goal

abbrev pub invariant-loop-i : goal.invariant-loop-i
invariant-loop-i g l = l.to.items ≡ l.fn.to.items ++ hits (take l.i (block_numbers l.keys)) (take l.i l.looked.found)
