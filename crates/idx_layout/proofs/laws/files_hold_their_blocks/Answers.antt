use Rattle.idx_layout.proofs.FileLemmas.{length-file_bytes, rows_of-file_bytes, block_at_offset}
use Rattle.idx_layout.proofs.laws.files_hold_their_blocks.Goals as goal

pub returns-clause-length : goal.returns-clause-length
returns-clause-length c = length-file_bytes

pub returns-clause-rows : goal.returns-clause-rows
returns-clause-rows c = rows_of-file_bytes

pub returns-clause-blocks : goal.returns-clause-blocks
returns-clause-blocks c = block_at_offset
