use Rattle.std.proofs.Common.{◌≡◌, ◌+◌, ◌<◌, ◌∷◌, drop, length, sym, ap, ◌∙◌, arith, rules}
use Rattle.idx_layout.specs.Files.{row_count, rows_of_file}
use Rattle.idx_layout.specs.OfHeader.{placing_of}
use Rattle.idx_layout.proofs.RowLemmas.{place_next, row_exists, row_next, rows_end, rows_over}
use Rattle.idx_layout.proofs.rows_in_file.FileRowsIterator.next.Goals as goal

pub returns-then-field-from-clause-steps : goal.returns-then-field-from-clause-steps
returns-then-field-from-clause-steps c =
    let inside = c.self.inside in
    let h = inside.header.now in
    let past = rows_over h inside.given c.blocks_per_file-per_file.result c.from.result c.blocks_per_file-per_file.ensures.value
    (c.from.ensures ∙ c.field_count.ensures.count) c.if-field-from.true in
    let none = sym c.self.view_is ∙ rows_end inside.layout (placing_of h) inside.file inside.given past in (none, none)

pub invariant_of-self : goal.invariant_of-self
invariant_of-self c =
    let inside = c.self.inside in
    let h = inside.header.now in
    let per_file = c.blocks_per_file-per_file in
    let exists : inside.given < row_count (placing_of h) =
    row_exists h inside.given per_file.result c.from.result per_file.ensures.value per_file.ensures.some
    (c.from.ensures ∙ c.field_count.ensures.count) c.if-field-from.false in
    record {
      file_exists = c.self.invariant.file_exists;
      within = omega arith;
      begins = place_next h inside.file inside.given per_file.result (inside.offset + c.from-2.result) per_file.ensures.value per_file.ensures.some
          (ap (λ n. inside.offset + n) c.from-2.ensures ∙ c.row_of-row.ensures.behind);
    }

pub returns-clause-steps : goal.returns-clause-steps
returns-clause-steps c =
    let inside = c.self.inside in
    let h = inside.header.now in
    let per_file = c.blocks_per_file-per_file in
    let exists = row_exists h inside.given per_file.result c.from.result per_file.ensures.value per_file.ensures.some
    (c.from.ensures ∙ c.field_count.ensures.count) c.if-field-from.false in
    sym c.self.view_is
    ∙ row_next inside.layout h inside.file inside.given per_file.result c.row_of-row.result per_file.ensures.value per_file.ensures.some c.row_of-row.ensures.row exists

pub returns-clause-goes : goal.returns-clause-goes
returns-clause-goes c =
    let inside = c.self.inside in
    let h = inside.header.now in
    let per_file = c.blocks_per_file-per_file in
    let exists = row_exists h inside.given per_file.result c.from.result per_file.ensures.value per_file.ensures.some
    (c.from.ensures ∙ c.field_count.ensures.count) c.if-field-from.false in
    let steps : c.args.self.now ≡ c.row_of-row.result ∷ drop (inside.given + 1) (rows_of_file inside.layout (placing_of h) inside.file) =
    sym c.self.view_is
    ∙ row_next inside.layout h inside.file inside.given per_file.result c.row_of-row.result per_file.ensures.value per_file.ensures.some c.row_of-row.ensures.row exists in
    let shorter = ap length steps in search rules
