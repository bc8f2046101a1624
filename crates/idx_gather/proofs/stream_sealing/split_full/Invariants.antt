use Rattle.std.proofs.Common.{◌≡◌, ◌++◌}
use Rattle.idx_gather.specs.Streams.{full_docks, other_docks}
use Rattle.idx_gather.proofs.stream_sealing.split_full.Given as goal

-- the docks so far, and those that are left behind them, are all
abbrev pub invariant-loop-dock : goal.invariant-loop-dock
invariant-loop-dock l = record {
  full : l.full.items ++ full_docks l.dock-iterator.rest.items ≡ full_docks l.initial.dock-iterator.rest.items;
  others : l.others.items ++ other_docks l.dock-iterator.rest.items ≡ other_docks l.initial.dock-iterator.rest.items;
}
