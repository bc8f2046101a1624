use Rattle.idx_layout.proofs.OffsetLemmas.{offset_of-place, offset_of-sums, present_before, length_of_file-sums}
use Rattle.idx_layout.proofs.laws.offsets_are_sums.Goals as goal

pub returns-clause-offset : goal.returns-clause-offset
returns-clause-offset c = offset_of-sums

pub returns-clause-before : goal.returns-clause-before
returns-clause-before c = present_before

pub returns-clause-length : goal.returns-clause-length
returns-clause-length c = length_of_file-sums

pub returns-clause-place : goal.returns-clause-place
returns-clause-place c = offset_of-place
