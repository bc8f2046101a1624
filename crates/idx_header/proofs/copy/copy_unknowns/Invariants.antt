use Rattle.std.proofs.Common.{◌≡◌, take}
use Rattle.idx_header.proofs.copy.copy_unknowns.Given as goal

abbrev pub invariant-loop-unknown : goal.invariant-loop-unknown
invariant-loop-unknown l = l.copies.items ≡ take l.unknown-index l.unknowns
