use Rattle.std.proofs.Common.{◌≡◌, ◌++◌, map, take}
use Rattle.idx_ship.specs.Made.{run_made}
use Rattle.idx_ship.proofs.run.push_runs.Given as goal

-- the runs so far are made
abbrev pub invariant-loop-span : goal.invariant-loop-span
invariant-loop-span l = l.runs.items ≡ l.fn.runs.items ++ map (run_made l.mask l.region l.size l.samples l.field) (take l.span-index l.spans)
