use Rattle.std.proofs.Common.{◌++◌, ◌∷◌, [], take, sym, ap, ◌∙◌, arith}
use Rattle.std.proofs.Math.Seq.{take-length}
use Rattle.idx_edition.proofs.RowLemmas.{taken_more}
use Rattle.idx_edition.proofs.rows.Rows.of_table.Goals as goal

pub loop-i-preserved : goal.loop-i-preserved
loop-i-preserved c =
    c.in_ok-push.ensures.items ∙ ap (λ rows. rows ++ c.row.result ∷ []) c.loop-i.invariant
    ∙ sym (taken_more c.args.table.now c.loop-i.i c.row.result c.row.ensures)

pub returns : goal.returns
returns c =
    c.loop-i.invariant
    ∙ ap (λ n. take n c.args.table.now) (omega (arith, c.loop-i-test.false, c.loop-i.auto.i-end, c.rows-i-end.ensures))
    ∙ take-length c.args.table.now
