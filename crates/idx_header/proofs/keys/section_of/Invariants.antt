use Rattle.std.proofs.Common.{◌≡◌, drop, find}
use Rattle.idx_header.specs.Keys.{has_key, key_text, section_of}
use Rattle.idx_header.proofs.keys.section_of.Given as goal

abbrev pub invariant-loop-section : goal.invariant-loop-section
invariant-loop-section l = section_of l.key l.sections ≡ find (has_key (key_text l.key)) (drop l.section-index l.sections)
