use Rattle.std.proofs.Common.{◌≡◌, ◌<◌, ◌++◌, ◌∷◌, [], List, ℕ, Some, length, map, sym, ap, subst, ◌∙◌, append_assoc, append-nil}
use Rattle.std.specs.Prelude.{slice_get}
use Rattle.std.specs.List.{AllByRecursion}
use Rattle.std.proofs.lemmas.List.{length-map, map-append}
use Rattle.idx_header.specs.Header.{HeaderValue, IsHeader, block_count}
use Rattle.idx_table.specs.declared.row.Row.{Row}
use Rattle.idx_layout.specs.Placing.{file_numbers}
use Rattle.idx_layout.specs.Files.{rows_of_file}
use Rattle.idx_layout.specs.OfHeader.{placing_of}
use Rattle.idx_layout.specs.Shape.{block_lengths}
use Rattle.idx_edition.specs.Tables.{IsTable, RiseFrom}
use Rattle.idx_edition.proofs.SoFarLemmas.{files_rise, no_tables, tables_more}
use Rattle.idx_edition.proofs.WrittenLemmas.{files_exist, written_right}
use Rattle.idx_edition.proofs.tables.Tables.of_header.Goals as goal

pub loop-file-init : goal.loop-file-init
loop-file-init c =
    let h = c.args.header.now in
    let rows = rows_of_file c.args.layout (placing_of h) in
    let all = c.into_iter-file-iterator.ensures.into_iter_gives ∙ c.files-file-items.ensures.value in
    record {
      numbers = ap (λ xs. xs ++ c.into_iter-file-iterator.result) c.new-numbers.ensures.items ∙ all;
      tables = c.new-tables.ensures.items ∙ ap (map rows) (sym c.new-numbers.ensures.items);
      each = no_tables c.new-tables.result.items (block_lengths (placing_of h)) h.blocks_per_file c.new-tables.ensures.items;
      exist = subst (AllByRecursion (λ file. file < block_count h)) (sym all) (files_exist h);
    }

pub loop-file-preserved : goal.loop-file-preserved
loop-file-preserved c =
    let h = c.args.header.now in
    let rows = rows_of_file c.args.layout (placing_of h) in
    let file = c.in-Some.file in
    let before = c.loop-file.invariant in
    let first = c.in-Some.ensures.steps in
    let made : c.in_ok-of_file.field-0 ≡ rows file = c.in_ok-of_file.ensures.rows in
    record {
      numbers =
          ap (λ xs. xs ++ c.next.new.self) c.in_ok-push.ensures.items
          ∙ append_assoc c.loop-file.numbers.items (file ∷ []) c.next.new.self
          ∙ ap (λ xs. c.loop-file.numbers.items ++ xs) (sym first) ∙ before.numbers;
      tables =
          c.in_ok-push-2.ensures.items
          ∙ ap (λ ts. ts ++ c.in_ok-of_file.field-0 ∷ []) before.tables
          ∙ ap (λ (t : List Row). map rows c.loop-file.numbers.items ++ t ∷ []) made
          ∙ sym (map-append rows c.loop-file.numbers.items (file ∷ []))
          ∙ ap (map rows) (sym c.in_ok-push.ensures.items);
      each =
          subst (λ (ts : List (List Row)). (i : ℕ) (rows : List Row) → slice_get ts i ≡ Some rows → IsTable (block_lengths (placing_of h)) h.blocks_per_file rows) (sym c.in_ok-push-2.ensures.items)
          (tables_more (block_lengths (placing_of h)) h.blocks_per_file c.loop-file.tables.items c.in_ok-of_file.field-0 before.each
          (subst (IsTable (block_lengths (placing_of h)) h.blocks_per_file) (sym made) (written_right c.args.layout h file c.in_ok-of_file.ensures.valid).0));
      exist = (subst (AllByRecursion (λ file. file < block_count h)) first before.exist).1;
    }

pub of_files-requires-clause-rising : goal.of_files-requires-clause-rising
of_files-requires-clause-rising c =
    let l = placing_of c.args.header.now in
    let all : c.loop-file.numbers.items ≡ file_numbers l = sym (append-nil c.loop-file.numbers.items) ∙ ap (λ xs. c.loop-file.numbers.items ++ xs) (sym c.in-None.ensures.steps.0) ∙ c.loop-file.invariant.numbers in
    subst (RiseFrom 0) (sym all) (files_rise l)

pub of_files-requires-clause-each : goal.of_files-requires-clause-each
of_files-requires-clause-each c = λ i rows at.
    subst (λ (k : HeaderValue). IsTable (block_lengths (placing_of k)) k.blocks_per_file rows) (sym c.in_ok-copy.ensures) (c.loop-file.invariant.each i rows at)

pub of_files-requires-clause-same : goal.of_files-requires-clause-same
of_files-requires-clause-same c =
    ap length c.loop-file.invariant.tables ∙ length-map c.loop-file.numbers.items (rows_of_file c.args.layout (placing_of c.args.header.now))

pub returns-clause-valid : goal.returns-clause-valid
returns-clause-valid c = subst IsHeader c.in_ok-copy.ensures c.of_files.ensures.valid
