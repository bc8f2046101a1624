use Rattle.std.proofs.Common.{◌≡◌, take}
use Rattle.idx_events.specs.Queries.{misses}
use Rattle.idx_core_asks.specs.Asked.{block_numbers}
use Rattle.idx_core_asks.proofs.progress.missed.Given as goal

abbrev pub invariant-loop-i : goal.invariant-loop-i
invariant-loop-i g l = l.missing.items ≡ misses (take l.i (block_numbers l.keys)) (take l.i l.looked.found)
