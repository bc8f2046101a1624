use Rattle.std.proofs.Common.{◌≡◌, ℕ, ◌+◌, ◌*◌, ◌%◌, ◌^◌, ◌≤◌, ◌++◌, ◌∷◌, [], List, Some, length, length-append, refl, sym, ap, subst, ◌∙◌, arith}
use Rattle.std.specs.Prelude.{IfSome, Option, slice_get}
use Rattle.std.specs.Option.{ForSome}
use Rattle.std.proofs.lemmas.List.{map-append}
use Rattle.idx_outside.specs.Files.{entry_shown, shown}
use Rattle.idx_table.specs.declared.row.Row.{Row}
use Rattle.idx_table.specs.Table.{table_bytes}
use Rattle.idx_header.specs.Header.{HeaderValue, IsHeader}
use Rattle.idx_layout.specs.Files.{row_count}
use Rattle.idx_layout.specs.OfHeader.{placing_of}
use Rattle.idx_layout.specs.Shape.{block_lengths}
use Rattle.idx_edition.specs.Asked.{AskedAtMost}
use Rattle.idx_edition.specs.Tables.{AreTablesOf, EndWithin, IsTable, RiseFrom, TablesValue, has_in_tables, shape_in, stored_in, tables_of}
use Rattle.idx_edition.specs.Stored.{fault_of_file, first_bad}
use Rattle.idx_edition.specs.Loaded.{HoldsStored, counts}
use Rattle.idx_edition.specs.declared.load_fault.LoadFault.{LoadFault}
use Rattle.idx_edition.specs.Reads.{ReadsFiles, ReadsOne, count_there, most_reads}
use Rattle.idx_edition.proofs.AskedLemmas.{asked_more, asked_none}
use Rattle.idx_edition.proofs.SoFarLemmas.{HoldSoFar, bad_first, bad_since, cause_since, same_counts, files_rise, no_tables, no_leaves, hold_none, hold_skip, hold_more, numbers_skip, numbers_more, tables_more, leaves_more, found_none, found_some, sound_since, reads_more}
use Rattle.idx_edition.proofs.ReadsLemmas.{err_is, few_more, few_none, few_skip, is_there, on_err, reads_pushed, reads_with}
use Rattle.idx_edition.proofs.HeldLemmas.{holds_stored}
use Rattle.idx_edition.proofs.edition.Edition.open_files.Goals as goal

pub loop-file-init : goal.loop-file-init
loop-file-init g c =
    let h = c.args.header.now in
    let contents = g.L.Leaf.contents in
    let all = c.into_iter-file-iterator.ensures.into_iter_gives ∙ c.files-file-items.ensures.value in
    record {
      rising = subst (RiseFrom 0) (sym (ap (λ xs. xs ++ c.into_iter-file-iterator.result) c.new-numbers.ensures.items ∙ all)) (files_rise (placing_of h));
      same = ap length c.new-tables.ensures.items ∙ sym (ap length c.new-numbers.ensures.items);
      each = no_tables c.new-tables.result.items c.in_ok-lengths.lengths.items h.blocks_per_file c.new-tables.ensures.items;
      fits = no_leaves contents c.new-tables.result.items c.new-leaves.result.items c.new-tables.ensures.items c.new-leaves.ensures.items;
      holds = hold_none h c.args.time (g.B.Bay.files c.args.bay.now) c.into_iter-file-iterator.result c.new-numbers.result.items c.new-tables.result.items (shown contents c.new-leaves.result.items)
          all c.new-numbers.ensures.items c.new-tables.ensures.items (ap (shown contents) c.new-leaves.ensures.items);
      files = refl;
      header = refl;
      admits = λ path admitted. admitted;
      begun = refl;
      changes = refl;
      failed = refl;
      quiet = refl;
      reader_quiet = refl;
      few = few_none h c.args.time (g.B.Bay.files c.args.bay.now) c.into_iter-file-iterator.result (length c.new-leaves.result.items) all (ap length c.new-leaves.ensures.items);
      reads = omega (arith, ap length c.new-leaves.ensures.items);
      asked = subst (λ (n : ℕ). AskedAtMost (g.R.Reader.asked c.args.reader.now) (g.R.Reader.asked c.args.reader.now) (n * table_bytes (row_count (placing_of h)))) (sym (ap length c.new-leaves.ensures.items)) (asked_none (g.R.Reader.asked c.args.reader.now) (table_bytes (row_count (placing_of h))));
    }

pub loop-file-preserved-in_default : goal.loop-file-preserved-in_default
loop-file-preserved-in_default g c =
    let h = c.args.header.now in
    let contents = g.L.Leaf.contents in
    let opened = c.in_ok-found.ensures in
    let before = c.loop-file.invariant in
    let first = c.in-Some.ensures.steps in
    let file = c.in-Some.file in
    let since = g.B.Bay.files c.args.bay.now in
    let shows : List Row × (List ℕ × g.row.L.Denot) → List Row × (List ℕ × Option (List ℕ)) = λ f. (f.0, entry_shown contents f.1) in
    let read = opened.no_read c.in_default.is in
    record {
      rising = numbers_skip c.loop-file.numbers.items c.loop-file.file-iterator c.next.new.self file first before.rising;
      same = before.same;
      each = before.each;
      fits = before.fits;
      holds = hold_skip h c.args.time since c.loop-file.file-iterator c.next.new.self c.loop-file.numbers.items file c.loop-file.tables.items (shown contents c.loop-file.leaves.items) first
          (found_none h c.args.time file shows c.in_ok-found.found (g.B.Bay.files c.loop-file.bay) since c.in_default.is before.files opened.found)
          (sound_since h c.args.time file (g.B.Bay.files c.loop-file.bay) since before.files opened.sound) before.holds;
      files = opened.files ∙ before.files;
      header = opened.header ∙ before.header;
      admits = λ path admitted. opened.admits path (before.admits path admitted);
      begun = opened.begun ∙ before.begun;
      changes = opened.changes ∙ before.changes;
      failed = opened.kept ∙ before.failed;
      quiet = opened.quiet ∙ before.quiet;
      reader_quiet = opened.reader_quiet ∙ before.reader_quiet;
      few = few_skip h c.args.time since c.loop-file.file-iterator c.next.new.self file (length c.loop-file.leaves.items) first before.few;
      reads = ap (λ r. g.R.Reader.reads r % 2 ^ 64) read ∙ before.reads;
      asked = subst (λ r. AskedAtMost (g.R.Reader.asked c.args.reader.now) (g.R.Reader.asked r) (length c.loop-file.leaves.items * table_bytes (row_count (placing_of h)))) (sym read) before.asked;
    }

pub loop-file-preserved : goal.loop-file-preserved
loop-file-preserved g c =
    let h = c.args.header.now in
    let contents = g.L.Leaf.contents in
    let opened = c.in_ok-found.ensures in
    let before = c.loop-file.invariant in
    let first = c.in-Some.ensures.steps in
    let file = c.in-Some.file in
    let rows : List Row = c.in-Some-found.rows in
    let leaf : List ℕ × g.row.L.Denot = c.in-Some-found.leaf in
    let is = c.in-Some-found.is in
    let since = g.B.Bay.files c.args.bay.now in
    let shows : List Row × (List ℕ × g.row.L.Denot) → List Row × (List ℕ × Option (List ℕ)) = λ f. (f.0, entry_shown contents f.1) in
    let found = λ (P : List Row × (List ℕ × g.row.L.Denot) → Type 0) (holds : IfSome c.in_ok-found.found P). subst (λ o. IfSome o P) is holds in
    let numbers : c.push_found.new.numbers.items ≡ c.loop-file.numbers.items ++ file ∷ [] = c.in_ok-push_found.ensures.numbers in
    let tables : c.push_found.new.tables.items ≡ c.loop-file.tables.items ++ rows ∷ [] = c.in_ok-push_found.ensures.tables in
    let leaves : c.push_found.new.leaves.items ≡ c.loop-file.leaves.items ++ leaf ∷ [] = c.in_ok-push_found.ensures.leaves in
    record {
      rising = subst (λ xs. RiseFrom 0 (xs ++ c.next.new.self)) (sym numbers) (numbers_more c.loop-file.numbers.items c.loop-file.file-iterator c.next.new.self file first before.rising);
      same =
          ap length tables ∙ length-append c.loop-file.tables.items (rows ∷ []) ∙ ap (λ n. n + 1) before.same
          ∙ sym (ap length numbers ∙ length-append c.loop-file.numbers.items (file ∷ []));
      each = subst (λ (ts : List (List Row)). (i : ℕ) (rows : List Row) → slice_get ts i ≡ Some rows → IsTable c.in_ok-lengths.lengths.items h.blocks_per_file rows) (sym tables)
          (tables_more c.in_ok-lengths.lengths.items h.blocks_per_file c.loop-file.tables.items rows before.each (found (λ f. IsTable c.in_ok-lengths.lengths.items h.blocks_per_file f.0) opened.table));
      fits = subst (λ ts. AreTablesOf ts (shown contents c.push_found.new.leaves.items)) (sym tables)
          (subst (λ ls. AreTablesOf (c.loop-file.tables.items ++ rows ∷ []) (shown contents ls)) (sym leaves)
          (leaves_more contents c.loop-file.tables.items c.loop-file.leaves.items rows leaf before.fits
          (found (λ f. ForSome (contents f.1.1) (λ bytes. EndWithin f.0 (length bytes))) opened.ends)));
      holds = subst (λ ns. IfSome since (λ files. HoldSoFar h c.args.time files c.next.new.self ns c.push_found.new.tables.items (shown contents c.push_found.new.leaves.items))) (sym numbers)
          (subst (λ ts. IfSome since (λ files. HoldSoFar h c.args.time files c.next.new.self (c.loop-file.numbers.items ++ file ∷ []) ts (shown contents c.push_found.new.leaves.items))) (sym tables)
          (subst (λ ls. IfSome since (λ files. HoldSoFar h c.args.time files c.next.new.self (c.loop-file.numbers.items ++ file ∷ []) (c.loop-file.tables.items ++ rows ∷ []) ls)) (sym (ap (shown contents) leaves ∙ map-append (entry_shown contents) c.loop-file.leaves.items (leaf ∷ [])))
          (hold_more h c.args.time since c.loop-file.file-iterator c.next.new.self c.loop-file.numbers.items file c.loop-file.tables.items rows (shown contents c.loop-file.leaves.items) (entry_shown contents leaf) first
          (found_some h c.args.time file shows c.in_ok-found.found (rows, leaf) (g.B.Bay.files c.loop-file.bay) since is before.files opened.found)
          (sound_since h c.args.time file (g.B.Bay.files c.loop-file.bay) since before.files opened.sound) before.holds)));
      files = opened.files ∙ before.files;
      header = opened.header ∙ before.header;
      admits = λ path admitted. opened.admits path (before.admits path admitted);
      begun = opened.begun ∙ before.begun;
      changes = opened.changes ∙ before.changes;
      failed = opened.kept ∙ before.failed;
      quiet = opened.quiet ∙ before.quiet;
      reader_quiet = opened.reader_quiet ∙ before.reader_quiet;
      few = subst (λ (n : ℕ). n + count_there h c.args.time since c.next.new.self ≤ most_reads h c.args.time since) (sym (ap length leaves ∙ length-append c.loop-file.leaves.items (leaf ∷ [])))
          (few_more h c.args.time since c.loop-file.file-iterator c.next.new.self file (length c.loop-file.leaves.items) first
          (is_there h c.args.time since file (rows, entry_shown contents leaf)
          (found_some h c.args.time file shows c.in_ok-found.found (rows, leaf) (g.B.Bay.files c.loop-file.bay) since is before.files opened.found))
          before.few);
      reads = reads_more (g.R.Reader.reads c.args.reader.now) (g.R.Reader.reads c.loop-file.reader) (g.R.Reader.reads c.open_file.new.reader) (length c.loop-file.leaves.items) before.reads
          (found (λ _. g.R.Reader.reads c.open_file.new.reader ≡ (g.R.Reader.reads c.loop-file.reader + 1) % 2 ^ 64) opened.one_read)
          ∙ ap (λ n. (g.R.Reader.reads c.args.reader.now + n) % 2 ^ 64) (sym (ap length leaves ∙ length-append c.loop-file.leaves.items (leaf ∷ [])));
      asked = subst (λ (n : ℕ). AskedAtMost (g.R.Reader.asked c.args.reader.now) (g.R.Reader.asked c.open_file.new.reader) (n * table_bytes (row_count (placing_of h)))) (sym (ap length leaves ∙ length-append c.loop-file.leaves.items (leaf ∷ [])))
          (asked_more (g.R.Reader.asked c.args.reader.now) (g.R.Reader.asked c.loop-file.reader) (g.R.Reader.asked c.open_file.new.reader) (length c.loop-file.leaves.items) (table_bytes (row_count (placing_of h))) before.asked
          (found (λ _. AskedAtMost (g.R.Reader.asked c.loop-file.reader) (g.R.Reader.asked c.open_file.new.reader) (table_bytes (row_count (placing_of h)))) opened.asked));
    }

pub of_files-requires-clause-each : goal.of_files-requires-clause-each
of_files-requires-clause-each g c = λ i rows at.
    subst (λ (k : HeaderValue). IsTable (block_lengths (placing_of k)) k.blocks_per_file rows) (sym c.in_ok-copy.ensures)
    (subst (λ (ns : List ℕ). IsTable ns c.args.header.now.blocks_per_file rows) c.in_ok-lengths.ensures (c.loop-file.invariant.each i rows at))

pub returns-clause-holds : goal.returns-clause-holds
returns-clause-holds g c =
    let h = c.args.header.now in
    let contents = g.L.Leaf.contents in
    subst (λ (t : TablesValue). IfSome (g.B.Bay.files c.args.bay.now) (λ files. HoldsStored h c.args.time files (shape_in t) (has_in_tables t) (stored_in t (shown contents c.loop-file.leaves.items)) (shown contents c.loop-file.leaves.items))) (sym (c.of_files.ensures.tables ∙ ap (λ (k : HeaderValue). tables_of k c.loop-file.numbers.items c.loop-file.tables.items) c.in_ok-copy.ensures))
    (holds_stored h c.args.time (subst IsHeader c.in_ok-copy.ensures c.of_files.ensures.valid) (g.B.Bay.files c.args.bay.now) c.loop-file.file-iterator c.loop-file.numbers.items c.loop-file.tables.items (shown contents c.loop-file.leaves.items)
    c.in-None.ensures.steps.0 c.loop-file.invariant.holds)

pub returns-in_err-push_found-clause-admits : goal.returns-in_err-push_found-clause-admits
returns-in_err-push_found-clause-admits g c = λ path admitted.
    c.in_ok-found.ensures.admits path (c.loop-file.invariant.admits path admitted)

pub returns-in_err-found-clause-cause : goal.returns-in_err-found-clause-cause
returns-in_err-found-clause-cause g c =
    let h = c.args.header.now in
    let bay = g.B.Bay in
    let reader = g.R.Reader in
    let known = bay.files c.loop-file.bay in
    let since = bay.files c.args.bay.now in
    let before = c.loop-file.invariant in
    let file = c.in-Some.file in
    let fault : LoadFault = c.in_err-found.field-0.0 in
    let same = same_counts (bay.faults c.loop-file.bay) (bay.faults c.args.bay.now) (bay.faults c.open_file.new.bay) (bay.failed c.loop-file.bay) (bay.failed c.args.bay.now) (bay.failed c.open_file.new.bay)
    (reader.faults c.loop-file.reader) (reader.faults c.args.reader.now) (reader.faults c.open_file.new.reader) before.quiet before.failed before.reader_quiet in
    err_is c.from_residual-in_err-found.result fault _ c.from_residual-in_err-found.ensures.1
    (cause_since (λ bad. IfSome known (λ files. fault_of_file h c.args.time files file ≡ Some bad)) (λ bad. IfSome since (λ files. first_bad h c.args.time files ≡ Some bad))
    (λ bad is. bad_first h c.args.time since c.loop-file.file-iterator c.next.new.self c.loop-file.numbers.items file c.loop-file.tables.items (shown g.L.Leaf.contents c.loop-file.leaves.items) bad c.in-Some.ensures.steps before.holds
    (bad_since h c.args.time file bad known since before.files is))
    (counts bay.faults bay.failed reader.faults c.loop-file.bay c.open_file.new.bay c.loop-file.reader c.open_file.new.reader)
    (counts bay.faults bay.failed reader.faults c.args.bay.now c.open_file.new.bay c.args.reader.now c.open_file.new.reader)
    same fault c.in_err-found.ensures.cause)

pub invariant_of-result : goal.invariant_of-result
invariant_of-result g c = record {
  fits = subst (λ (t : TablesValue). AreTablesOf t.tables (shown g.L.Leaf.contents c.loop-file.leaves.items)) (sym c.of_files.ensures.tables) c.loop-file.invariant.fits;
}

pub returns-in_err-found-clause-few_reads : goal.returns-in_err-found-clause-few_reads
returns-in_err-found-clause-few_reads g c =
    let h = c.args.header.now in
    let since = g.B.Bay.files c.args.bay.now in
    let before = c.loop-file.invariant in
    let file = c.in-Some.file in
    let start = g.R.Reader.reads c.args.reader.now in
    let now = g.R.Reader.reads c.loop-file.reader in
    let after = g.R.Reader.reads c.open_file.new.reader in
    on_err c.from_residual-in_err-found.result (ReadsFiles h c.args.time since start after)
    (reads_with h c.args.time since c.loop-file.file-iterator c.next.new.self file (length c.loop-file.leaves.items) start now after c.in-Some.ensures.steps before.few before.reads
    (subst (λ k. ReadsOne h c.args.time k file now after) before.files c.in_err-found.ensures.few_reads))

pub returns-in_err-push_found-clause-few_reads : goal.returns-in_err-push_found-clause-few_reads
returns-in_err-push_found-clause-few_reads g c =
    let h = c.args.header.now in
    let contents = g.L.Leaf.contents in
    let since = g.B.Bay.files c.args.bay.now in
    let before = c.loop-file.invariant in
    let opened = c.in_ok-found.ensures in
    let file = c.in-Some.file in
    let rows : List Row = c.in-Some-found.rows in
    let leaf : List ℕ × g.row.L.Denot = c.in-Some-found.leaf in
    let is = c.in-Some-found.is in
    let shows : List Row × (List ℕ × g.row.L.Denot) → List Row × (List ℕ × Option (List ℕ)) = λ f. (f.0, entry_shown contents f.1) in
    let start = g.R.Reader.reads c.args.reader.now in
    let now = g.R.Reader.reads c.loop-file.reader in
    let after = g.R.Reader.reads c.open_file.new.reader in
    on_err c.from_residual-in_err-push_found.result (ReadsFiles h c.args.time since start after)
    (reads_pushed h c.args.time since c.loop-file.file-iterator c.next.new.self file (length c.loop-file.leaves.items) start now after c.in-Some.ensures.steps before.few before.reads
    (is_there h c.args.time since file (rows, entry_shown contents leaf)
    (found_some h c.args.time file shows c.in_ok-found.found (rows, leaf) (g.B.Bay.files c.loop-file.bay) since is before.files opened.found))
    (subst (λ o. IfSome o (λ _. after ≡ (now + 1) % 2 ^ 64)) is opened.one_read))

pub returns-in_err-copy-clause-few_reads : goal.returns-in_err-copy-clause-few_reads
returns-in_err-copy-clause-few_reads g c =
    let before = c.loop-file.invariant in
    on_err c.from_residual-in_err-copy.result (ReadsFiles c.args.header.now c.args.time (g.B.Bay.files c.args.bay.now) (g.R.Reader.reads c.args.reader.now) (g.R.Reader.reads c.loop-file.reader)) (record {
      reads = length c.loop-file.leaves.items;
      few = omega (arith, before.few);
      made = before.reads;
    })

pub returns-in_err-copy-clause-admits : goal.returns-in_err-copy-clause-admits
returns-in_err-copy-clause-admits g c = c.loop-file.invariant.admits

pub returns-in_err-push_found-clause-header : goal.returns-in_err-push_found-clause-header
returns-in_err-push_found-clause-header g c = c.in_ok-found.ensures.header ∙ c.loop-file.invariant.header

pub returns-in_err-push_found-clause-files : goal.returns-in_err-push_found-clause-files
returns-in_err-push_found-clause-files g c = c.in_ok-found.ensures.files ∙ c.loop-file.invariant.files

pub returns-in_err-push_found-clause-begun : goal.returns-in_err-push_found-clause-begun
returns-in_err-push_found-clause-begun g c = c.in_ok-found.ensures.begun ∙ c.loop-file.invariant.begun

pub returns-in_err-push_found-clause-changes : goal.returns-in_err-push_found-clause-changes
returns-in_err-push_found-clause-changes g c = c.in_ok-found.ensures.changes ∙ c.loop-file.invariant.changes

pub returns-in_err-push_found-clause-count : goal.returns-in_err-push_found-clause-count
returns-in_err-push_found-clause-count g c = omega (arith, c.in_ok-found.ensures.quiet, c.loop-file.invariant.quiet)

pub returns-in_err-push_found-clause-reader_count : goal.returns-in_err-push_found-clause-reader_count
returns-in_err-push_found-clause-reader_count g c = omega (arith, c.in_ok-found.ensures.reader_quiet, c.loop-file.invariant.reader_quiet)

pub returns-clause-quiet : goal.returns-clause-quiet
returns-clause-quiet g c = c.loop-file.invariant.quiet

pub returns-clause-reader_quiet : goal.returns-clause-reader_quiet
returns-clause-reader_quiet g c = c.loop-file.invariant.reader_quiet

pub returns-clause-reads : goal.returns-clause-reads
returns-clause-reads g c = c.loop-file.invariant.reads

pub returns-clause-changes : goal.returns-clause-changes
returns-clause-changes g c = c.loop-file.invariant.changes

pub returns-clause-count : goal.returns-clause-count
returns-clause-count g c = omega (arith, c.loop-file.invariant.quiet)

pub returns-clause-reader_count : goal.returns-clause-reader_count
returns-clause-reader_count g c = omega (arith, c.loop-file.invariant.reader_quiet)

pub returns-clause-own_header : goal.returns-clause-own_header
returns-clause-own_header g c = ap (λ (t : TablesValue). t.header) c.of_files.ensures.tables ∙ c.in_ok-copy.ensures
