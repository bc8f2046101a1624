use Rattle.std.proofs.Common.{◌≡◌, ◌*◌, ◌+◌, ◌-◌, ◌<◌, false, Ok, Err, List, length, ℕ, arith, sym, ap, subst, refl, ◌∙◌}
use Rattle.std.specs.Prelude.{slice_get, Some}
use Rattle.std.specs.List.Sorted.{IsBinarySearchResult}
use Rattle.std.specs.Ordering.{nat_cmp}
use Rattle.std.proofs.Math.ListN.{get_or}
use Rattle.idx_layout.specs.OfHeader.{placing_of}
use Rattle.idx_layout.specs.Shape.{block_lengths}
use Rattle.idx_edition.specs.Tables.{TablesValue, StandsAt, file_in, has_in_tables}
use Rattle.idx_edition.proofs.LookupLemmas.{not_found, found_at, row_exists, row-stands, row-absent}
use Rattle.idx_edition.proofs.tables.Tables.find.Goals as goal

pub returns-in_default-clause-none : goal.returns-in_default-clause-none
returns-in_default-clause-none c = λ _.
    let t : TablesValue = record { header = c.self.inside.header; numbers = c.self.inside.numbers.items; tables = c.self.inside.tables.items } in
    let number : c.file_of-number.result ≡ file_in t.header.blocks_per_file c.args.block =
    c.file_of-number.ensures.value ∙ ap (λ n. file_in n c.args.block) c.blocks_per_file-per_file.ensures.value in
    subst (λ (t : TablesValue). has_in_tables t c.args.field c.args.block ≡ false) c.self.view_is
    (not_found t c.args.field c.args.block c.file_of-number.result c.in_default.field-0 c.self.invariant number
    (subst (λ (xs : List ℕ). IsBinarySearchResult (λ y. nat_cmp y c.file_of-number.result) xs (Err c.in_default.field-0)) c.deref.ensures.value c.in_default.ensures.position))

pub row-row-requires : goal.row-row-requires
row-row-requires c =
    let t : TablesValue = record { header = c.self.inside.header; numbers = c.self.inside.numbers.items; tables = c.self.inside.tables.items } in
    let number : c.file_of-number.result ≡ file_in t.header.blocks_per_file c.args.block =
    c.file_of-number.ensures.value ∙ ap (λ n. file_in n c.args.block) c.blocks_per_file-per_file.ensures.value in
    let found : (c.in-Ok.file < length t.numbers) × (get_or t.numbers c.in-Ok.file 0 ≡ c.file_of-number.result) =
    found_at t c.file_of-number.result c.in-Ok.file c.self.invariant
    (subst (λ (xs : List ℕ). IsBinarySearchResult (λ y. nat_cmp y c.file_of-number.result) xs (Ok c.in-Ok.file)) c.deref.ensures.value c.in-Ok.ensures.position) in
    let exists : c.args.field < length (block_lengths (placing_of t.header)) = subst (λ (t : TablesValue). c.args.field < length (block_lengths (placing_of t.header))) (sym c.self.view_is) c.requires in
    let place : c.args.block - file_in t.header.blocks_per_file c.args.block < t.header.blocks_per_file = omega (arith, number, c.blocks_per_file-per_file.ensures.value, c.file_of-number.ensures.from, c.file_of-number.ensures.to) in
    let row = row_exists t c.args.field c.args.block c.in-Ok.file c.index.result.now c.self.invariant found.0 c.index.ensures exists place in
    subst (λ n. c.from.result * n + (c.args.block - c.file_of-number.result) < length c.index.result.now) (sym c.blocks_per_file-per_file.ensures.value) (
    subst (λ f. f * t.header.blocks_per_file + (c.args.block - c.file_of-number.result) < length c.index.result.now) (sym c.from.ensures)
    (subst (λ n. c.args.field * t.header.blocks_per_file + (c.args.block - n) < length c.index.result.now) (sym number) row.1))

pub returns-then-row-eq0-clause-none : goal.returns-then-row-eq0-clause-none
returns-then-row-eq0-clause-none c = λ _.
    let t : TablesValue = record { header = c.self.inside.header; numbers = c.self.inside.numbers.items; tables = c.self.inside.tables.items } in
    let number : c.file_of-number.result ≡ file_in t.header.blocks_per_file c.args.block =
    c.file_of-number.ensures.value ∙ ap (λ n. file_in n c.args.block) c.blocks_per_file-per_file.ensures.value in
    let found : (c.in-Ok.file < length t.numbers) × (get_or t.numbers c.in-Ok.file 0 ≡ c.file_of-number.result) =
    found_at t c.file_of-number.result c.in-Ok.file c.self.invariant
    (subst (λ (xs : List ℕ). IsBinarySearchResult (λ y. nat_cmp y c.file_of-number.result) xs (Ok c.in-Ok.file)) c.deref.ensures.value c.in-Ok.ensures.position) in
    let exists : c.args.field < length (block_lengths (placing_of t.header)) = subst (λ (t : TablesValue). c.args.field < length (block_lengths (placing_of t.header))) (sym c.self.view_is) c.requires in
    let place : c.args.block - file_in t.header.blocks_per_file c.args.block < t.header.blocks_per_file = omega (arith, number, c.blocks_per_file-per_file.ensures.value, c.file_of-number.ensures.from, c.file_of-number.ensures.to) in
    let row = row_exists t c.args.field c.args.block c.in-Ok.file c.index.result.now c.self.invariant found.0 c.index.ensures exists place in
    let at : slice_get c.index.result.now (c.args.field * t.header.blocks_per_file + (c.args.block - file_in t.header.blocks_per_file c.args.block)) ≡ Some c.row-row.result =
    ap (λ f. slice_get c.index.result.now (f * t.header.blocks_per_file + (c.args.block - file_in t.header.blocks_per_file c.args.block))) (sym c.from.ensures)
    ∙ ap (λ n. slice_get c.index.result.now (c.from.result * t.header.blocks_per_file + (c.args.block - n))) (sym number)
    ∙ ap (λ n. slice_get c.index.result.now (c.from.result * n + (c.args.block - c.file_of-number.result))) (sym c.blocks_per_file-per_file.ensures.value) ∙ c.row-row.ensures in
    subst (λ (t : TablesValue). has_in_tables t c.args.field c.args.block ≡ false) c.self.view_is
    (row-absent t c.args.field c.args.block c.in-Ok.file c.file_of-number.result c.index.result.now c.row-row.result c.self.invariant found number row.0 at c.if-row-eq0.true)

pub returns-clause-stands : goal.returns-clause-stands
returns-clause-stands c =
    let t : TablesValue = record { header = c.self.inside.header; numbers = c.self.inside.numbers.items; tables = c.self.inside.tables.items } in
    let number : c.file_of-number.result ≡ file_in t.header.blocks_per_file c.args.block =
    c.file_of-number.ensures.value ∙ ap (λ n. file_in n c.args.block) c.blocks_per_file-per_file.ensures.value in
    let found : (c.in-Ok.file < length t.numbers) × (get_or t.numbers c.in-Ok.file 0 ≡ c.file_of-number.result) =
    found_at t c.file_of-number.result c.in-Ok.file c.self.invariant
    (subst (λ (xs : List ℕ). IsBinarySearchResult (λ y. nat_cmp y c.file_of-number.result) xs (Ok c.in-Ok.file)) c.deref.ensures.value c.in-Ok.ensures.position) in
    let exists : c.args.field < length (block_lengths (placing_of t.header)) = subst (λ (t : TablesValue). c.args.field < length (block_lengths (placing_of t.header))) (sym c.self.view_is) c.requires in
    let place : c.args.block - file_in t.header.blocks_per_file c.args.block < t.header.blocks_per_file = omega (arith, number, c.blocks_per_file-per_file.ensures.value, c.file_of-number.ensures.from, c.file_of-number.ensures.to) in
    let row = row_exists t c.args.field c.args.block c.in-Ok.file c.index.result.now c.self.invariant found.0 c.index.ensures exists place in
    let at : slice_get c.index.result.now (c.args.field * t.header.blocks_per_file + (c.args.block - file_in t.header.blocks_per_file c.args.block)) ≡ Some c.row-row.result =
    ap (λ f. slice_get c.index.result.now (f * t.header.blocks_per_file + (c.args.block - file_in t.header.blocks_per_file c.args.block))) (sym c.from.ensures)
    ∙ ap (λ n. slice_get c.index.result.now (c.from.result * t.header.blocks_per_file + (c.args.block - n))) (sym number)
    ∙ ap (λ n. slice_get c.index.result.now (c.from.result * n + (c.args.block - c.file_of-number.result))) (sym c.blocks_per_file-per_file.ensures.value) ∙ c.row-row.ensures in
    subst (λ (t : TablesValue). StandsAt t c.args.field c.args.block c.in-Ok.file c.row-row.result.offset c.row-row.result.flags) c.self.view_is
    (row-stands t c.args.field c.args.block c.in-Ok.file c.file_of-number.result c.row-row.result.offset c.row-row.result.flags c.index.result.now c.row-row.result c.self.invariant found number row.0 at c.if-row-eq0.false refl refl)
