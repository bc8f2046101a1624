use Rattle.idx_table.proofs.ReadBackLemmas.{rows_of-more}
use Rattle.idx_table.proofs.table.rows_of.Goals as goal

pub loop-i-preserved : goal.loop-i-preserved
loop-i-preserved c =
    rows_of-more c.args.front.now c.loop-i.i c.loop-i.table.items c.push.new.self.items c.row_at.result
    c.loop-i.invariant c.row_at.ensures c.in_ok-push.ensures.items
