use Rattle.std.proofs.Common.{◌≡◌, ◌++◌, take, map}
use Rattle.idx_text.specs.Entries.{entries_text}
use Rattle.idx_header.specs.Written.{unknown_entry}
use Rattle.idx_header.proofs.write.write_unknowns.Given as goal

abbrev pub invariant-loop-unknown : goal.invariant-loop-unknown
invariant-loop-unknown l = l.out ≡ l.initial.out ++ entries_text (map unknown_entry (take l.unknown-index l.unknowns))
