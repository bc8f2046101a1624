use Rattle.std.proofs.Common.{◌∙◌, arith}
use Rattle.idx_layout.specs.OfHeader.{placing_of}
use Rattle.idx_layout.proofs.RowLemmas.{first_place}
use Rattle.idx_layout.proofs.rows_in_file.FileRows.of_header.Goals as goal

pub invariant_of-result : goal.invariant_of-result
invariant_of-result c = record {
  file_exists = c.requires.exists;
  within = omega arith;
  begins = λ some. c.table_len.ensures.value ∙ first_place (placing_of c.args.header.now) c.args.file c.table_len.ensures.valid.blocks_some some;
}
