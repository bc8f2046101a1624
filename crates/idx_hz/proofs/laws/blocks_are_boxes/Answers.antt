-- The law is proved over lists of digits and coordinates.
use Rattle.std.proofs.Common.{◌+◌, add-one}
use Rattle.idx_hz.proofs.BlockLemmas.{block_zero_iff_level, block_iff_box}
use Rattle.idx_hz.proofs.laws.blocks_are_boxes.Goals as goal

pub returns-clause-first : goal.returns-clause-first
returns-clause-first c mask p bits has = block_zero_iff_level mask p bits

pub returns-clause-others : goal.returns-clause-others
returns-clause-others c mask p bits k block = rw (add-one k, add-one (bits + k)) (block_iff_box mask p bits k block)
