use Rattle.std.proofs.Common.{sym, ◌∙◌, arith}
use Rattle.idx_table.proofs.FaultLemmas.{is_none, none-first_fault, is_whole}
use Rattle.idx_table.proofs.table.Table.read.Goals as goal

pub rows_of-requires : goal.rows_of-requires
rows_of-requires c = λ i h.
    let none = none-first_fault c.args.front.now c.args.rows c.args.block.now.items c.args.len (sym c.first_fault.ensures ∙ is_none c.first_fault.result c.in_default.not-Some) i h in
    let whole = is_whole c.args.front.now c.args.rows c.args.block.now.items c.args.len i none in
    omega arith
