use Rattle.idx_layout.specs.OfHeader.{placing_of}
use Rattle.idx_check.proofs.WantedLemmas.{length-wanted_bytes, wanted_block_byte_of_header, wanted_table}
use Rattle.idx_check.proofs.laws.wanted_bytes_are_the_files_own.Goals as goal

pub returns-clause-length : goal.returns-clause-length
returns-clause-length c = λ h file bytes is. length-wanted_bytes (placing_of h) file bytes

pub returns-clause-table : goal.returns-clause-table
returns-clause-table c = λ h file bytes is. wanted_table (placing_of h) file bytes

pub returns-clause-blocks : goal.returns-clause-blocks
returns-clause-blocks c = wanted_block_byte_of_header
