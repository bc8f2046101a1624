use Rattle.std.proofs.Common.{◌≡◌, ℕ, ◌≤◌, ◌<◌, ◌+◌, length, sym, ap, ◌∙◌, arith}
use Rattle.std.specs.Prelude.{slice_index}
use Rattle.std.proofs.Math.Nat.{lt_of_not-le}
use Rattle.std.proofs.lemmas.Grind.{common_steps}
use Rattle.idx_table.specs.declared.row.Row.{Row}
use Rattle.idx_table.specs.Table.{table_bytes, field_of, fault_in}
use Rattle.idx_table.proofs.FaultLemmas.{kind_of_row-cut, kind_of_row-whole}
use Rattle.idx_table.proofs.table.kind_of_row.Goals as goal

pub returns-then-i-whole_rows : goal.returns-then-i-whole_rows
returns-then-i-whole_rows c =
    let is_cut = lt_of_not-le (λ (whole : table_bytes (c.args.i + 1) ≤ c.args.len).
    let within : c.args.i < c.whole_rows.result = (c.whole_rows.ensures c.args.i).1 whole in omega arith) in
    sym (kind_of_row-cut c.args.front.now c.args.rows c.args.block.now.items c.args.len c.args.i is_cut)

pub row_at-requires : goal.row_at-requires
row_at-requires c = let whole = c.whole_rows.ensures c.args.i in omega (arith, whole.0)

pub returns : goal.returns
returns c =
    let whole : table_bytes (c.args.i + 1) ≤ c.args.len = (c.whole_rows.ensures c.args.i).0 c.if-i-whole_rows.false in
    let blocks = c.args.block.now.items in
    let size : c.index.result.now ≡ slice_index blocks (field_of c.args.rows (length blocks) c.args.i) = grind (arith, common_steps) in
    c.fault_in.ensures
    ∙ ap (λ (bytes : ℕ). fault_in c.args.rows bytes c.args.len c.row_at.result) size
    ∙ ap (λ (row : Row). fault_in c.args.rows (slice_index blocks (field_of c.args.rows (length blocks) c.args.i)) c.args.len row) c.row_at.ensures
    ∙ sym (kind_of_row-whole c.args.front.now c.args.rows blocks c.args.len c.args.i whole)
