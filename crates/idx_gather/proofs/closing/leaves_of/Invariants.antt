use Rattle.std.proofs.Common.{◌≡◌, ◌++◌, map}
use Rattle.idx_gather.proofs.closing.leaves_of.Given as goal

-- the leaves so far, and those of the files that are left behind them, are all
abbrev pub invariant-loop-leaf : goal.invariant-loop-leaf
invariant-loop-leaf g l = l.leaves.items ++ map (λ entry. entry.1) l.leaf-iterator.rest.items ≡ map (λ entry. entry.1) l.initial.leaf-iterator.rest.items
