use Rattle.std.proofs.Common.{◌∙◌, arith}
use Rattle.idx_layout.proofs.HeaderLemmas.{blocks_of_same}
use Rattle.idx_layout.proofs.blocks_in_file.FileBlocks.of_header.Goals as goal

pub returns-clause-value : goal.returns-clause-value
returns-clause-value c =
    c.between.ensures
    ∙ blocks_of_same c.args.header.now c.mask.result c.region.result c.bits_per_block.result c.args.file c.saturating_add.result
    c.mask.ensures.valid c.mask.ensures.value c.region.ensures.value c.bits_per_block.ensures.value (omega (arith, c.blocks_per_file.ensures.value))
