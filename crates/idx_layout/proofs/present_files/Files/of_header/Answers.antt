use Rattle.idx_layout.specs.OfHeader.{placing_of}
use Rattle.idx_layout.proofs.FilesLemmas.{files_of_same}
use Rattle.idx_layout.proofs.present_files.Files.of_header.Goals as goal

pub returns-clause-value : goal.returns-clause-value
returns-clause-value c = files_of_same (placing_of c.args.header.now) c.mask.result c.region.result
    c.bits_per_block.result c.blocks_per_file.result c.mask.ensures.value c.region.ensures.value
    c.bits_per_block.ensures.value c.blocks_per_file.ensures.value
