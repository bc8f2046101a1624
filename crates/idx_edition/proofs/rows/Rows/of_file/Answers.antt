use Rattle.std.proofs.Common.{◌++◌, ◌∷◌, [], sym, ap, ◌∙◌, append_assoc, append-nil}
use Rattle.idx_edition.proofs.rows.Rows.of_file.Goals as goal

pub loop-row-init : goal.loop-row-init
loop-row-init c =
    ap (λ rows. rows ++ c.into_iter-row-iterator.result) c.new-rows.ensures.items
    ∙ c.into_iter-row-iterator.ensures.into_iter_gives ∙ c.file_rows-row-items.ensures.rows

pub loop-row-preserved : goal.loop-row-preserved
loop-row-preserved c =
    ap (λ rows. rows ++ c.next.new.self) c.in_ok-push.ensures.items
    ∙ append_assoc c.loop-row.rows.items (c.in-Some.row ∷ []) c.next.new.self
    ∙ ap (λ rows. c.loop-row.rows.items ++ rows) (sym c.in-Some.ensures.steps) ∙ c.loop-row.invariant

pub returns-clause-rows : goal.returns-clause-rows
returns-clause-rows c =
    sym (append-nil c.loop-row.rows.items)
    ∙ ap (λ rows. c.loop-row.rows.items ++ rows) (sym c.in-None.ensures.steps.0) ∙ c.loop-row.invariant
