use Rattle.std.proofs.Common.{sym, ◌∙◌, below_more, arith}
use Rattle.idx_table.proofs.FaultLemmas.{is_none, first_fault-none, first_fault-some}
use Rattle.idx_table.proofs.table.first_fault.Goals as goal

pub returns-in-Some : goal.returns-in-Some
returns-in-Some c =
    sym (first_fault-some c.args.front.now c.args.rows c.args.block.now.items c.args.len _ (record {
      exists = c.loop-row-test.true;
      kind = sym c.in-Some.ensures;
      before = c.loop-row.invariant;
    }))

pub loop-row-preserved : goal.loop-row-preserved
loop-row-preserved c =
    below_more _ _ c.loop-row.invariant (sym c.kind_of_row.ensures ∙ is_none c.kind_of_row.result c.in_default.not-Some)

pub returns : goal.returns
returns c =
    sym (first_fault-none c.args.front.now c.args.rows c.args.block.now.items c.args.len (λ i h. c.loop-row.invariant i (omega arith)))
