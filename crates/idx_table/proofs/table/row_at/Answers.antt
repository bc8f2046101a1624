use Rattle.std.proofs.Common.{◌≡◌, ℕ, ◌+◌, ◌-◌, ◌*◌, ap, ◌∙◌, take, drop, arith}
use Rattle.idx_table.specs.Row.{row_of}
use Rattle.idx_table.proofs.table.row_at.Goals as goal

one_row : (start : ℕ) → start + 40 - start ≡ 40
one_row start = omega arith

pub returns : goal.returns
returns c =
    c.row_in.ensures ∙ ap (λ n. row_of (take n (drop (40 + 40 * c.args.i) c.args.front.now))) (one_row (40 + 40 * c.args.i))
