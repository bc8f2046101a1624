use Rattle.std.proofs.Common.{◌≡◌, ◌+◌, ◌++◌, take, map, codes}
use Rattle.idx_commands.proofs.summary.write_mask.Given as goal

abbrev pub invariant-loop-place : goal.invariant-loop-place
invariant-loop-place l = l.out ≡ l.fn.out ++ codes "bits V" ++ map (λ d. d + 48) (take l.place l.mask)
