use Rattle.std.proofs.Common.{◌≡◌, take}
use Rattle.idx_header.specs.HeaderOf.{unknown_in}
use Rattle.idx_header.proofs.unknowns.read_unknowns.Given as goal

abbrev pub invariant-loop-section : goal.invariant-loop-section
invariant-loop-section l = l.unknown.items ≡ unknown_in (take l.section-index l.sections)
