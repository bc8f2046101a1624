use Rattle.std.proofs.Common.{sym, ◌∙◌, arith}
use Rattle.std.proofs.lemmas.Bool.{le-ltb}
use Rattle.idx_layout.proofs.RowLemmas.{absent_behind}
use Rattle.idx_layout.proofs.rows_in_file.is_here.Goals as goal

pub returns-else-block-block_count-clause-value : goal.returns-else-block-block_count-clause-value
returns-else-block-block_count-clause-value c =
    le-ltb c.args.block c.block_count.result c.if-block-block_count.false
    ∙ sym (absent_behind c.args.header.now c.args.block c.block_count.ensures.valid (omega (arith, c.block_count.ensures.value, c.if-block-block_count.false)))
