use Rattle.std.proofs.Common.{◌≡◌, ℕ, ◌<◌, length, rules, slice_set, subst, sym, ◌∙◌}
use Rattle.std.proofs.lemmas.List.{set-get_or}
use Rattle.idx_outside.specs.Objects.{faults_at}
use Rattle.idx_check.specs.declared.verdict.Verdict.TheVariants.{Wrong}
use Rattle.idx_commands.specs.Seen.{FirstReads, ReaderCounts, bay_seen, first_reads, readers_seen, sink_seen}
use Rattle.idx_commands.proofs.CheckLemmas.{check_ends, check_means_first, same_first, wrong_first}
use Rattle.idx_commands.proofs.KnownLemmas.{first_count, placed_count}
use Rattle.idx_commands.proofs.check.run_check.Goals as goal

pub returns : goal.returns
returns g c =
    let items = c.args.readers.now.items in
    let old = c.index_mut.result.now in
    let new = c.check_with.new.reader in
    let bay = bay_seen g.B.Bay.header g.B.Bay.files g.B.Bay.begun g.B.Bay.changes g.B.Bay.failed g.B.Bay.faults c.args.bay.now c.check_with.new.bay in
    let readers = readers_seen g.R.Reader.faults g.R.Reader.reads g.R.Reader.asked items (slice_set items 0 new) in
    let sink = sink_seen g.K.Sink.contents g.K.Sink.faults c.args.out.now c.check_with.new.out in
    let some : 0 < length items = search rules in
    let at : (count : g.row.R.Denot → ℕ) → count old ≡ faults_at count items 0 =
    λ count. first_count count items old some c.index_mut.ensures.value in
    let then : (count : g.row.R.Denot → ℕ) → count new ≡ faults_at count (slice_set items 0 new) 0 =
    λ count. placed_count count items new some in
    let counts : ReaderCounts =
    record {
      faults_before = g.R.Reader.faults old;
      faults_after = g.R.Reader.faults new;
      reads_before = g.R.Reader.reads old;
      reads_after = g.R.Reader.reads new;
    } in
    let first : FirstReads =
    record {
      reads_before = g.R.Reader.reads old;
      reads_after = g.R.Reader.reads new;
      asked_before = g.R.Reader.asked old;
      asked_after = g.R.Reader.asked new;
    } in
    let reads_are : first ≡ first_reads readers =
    λ i. record {
      reads_before = at g.R.Reader.reads i;
      reads_after = then g.R.Reader.reads i;
      asked_before = at g.R.Reader.asked i;
      asked_after = then g.R.Reader.asked i;
    } in
    check_ends c.args.time bay readers sink c.check_with.result
    (check_means_first c.args.time bay readers sink counts c.check_with.result
    (λ i. record {
      faults_before = at g.R.Reader.faults i;
      faults_after = then g.R.Reader.faults i;
      reads_before = at g.R.Reader.reads i;
      reads_after = then g.R.Reader.reads i;
    }) c.check_with.ensures.means)
    (λ said. same_first c.args.time bay readers sink first reads_are (c.check_with.ensures.pieces_same said))
    (λ file at_byte why is. wrong_first c.args.time bay readers sink first (Wrong file at_byte why) reads_are (c.check_with.ensures.pieces_wrong file at_byte why is))
    c.check_with.ensures.bay_answered (λ more. c.check_with.ensures.reader_answered (search rules)) c.check_with.ensures.sink_answered
    (λ early. subst (λ x. slice_set items 0 x ≡ items) (sym (c.check_with.ensures.unread early ∙ c.index_mut.ensures.value))
    (set-get_or items 0 old))
    c.check_with.ensures.unfailed
    c.check_with.ensures.header c.check_with.ensures.files c.check_with.ensures.begun c.check_with.ensures.changes c.check_with.ensures.bay_count c.check_with.ensures.bay_once
    (search rules) (search rules) (search rules) (search rules)
    c.check_with.ensures.sink_count c.check_with.ensures.sink_once
