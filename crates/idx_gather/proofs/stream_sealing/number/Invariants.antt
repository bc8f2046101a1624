use Rattle.std.proofs.Common.{◌≡◌, ◌++◌, length}
use Rattle.std.specs.List.{zip}
use Rattle.std.specs.Vec.Iter.{into_iter_items}
use Rattle.idx_gather.proofs.stream_sealing.number.Given as goal

-- the entries so far, and those that are left behind them, are all
abbrev pub invariant-loop-file : goal.invariant-loop-file
invariant-loop-file g l = record {
  all : l.sealed.items ++ zip l.file-iterator.rest.items (into_iter_items l.leaves)
      ≡ l.initial.sealed.items ++ zip l.initial.file-iterator.rest.items (into_iter_items l.initial.leaves);
  many : length l.file-iterator.rest.items ≡ length (into_iter_items l.leaves);
}
