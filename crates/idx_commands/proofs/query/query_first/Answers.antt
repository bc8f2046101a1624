use Rattle.std.proofs.Common.{◌≡◌, ℕ, ◌<◌, length, rules, slice_set, subst, sym, ◌∙◌}
use Rattle.std.proofs.lemmas.List.{set-get_or}
use Rattle.idx_outside.specs.Objects.{faults_at}
use Rattle.idx_commands.specs.Seen.{bay_seen, readers_seen, sink_seen}
use Rattle.idx_commands.proofs.KnownLemmas.{first_count, placed_count}
use Rattle.idx_commands.proofs.QueryLemmas.{count_of_first, few_of_first, means_of_first, once_of_first, query_ends}
use Rattle.idx_commands.proofs.query.query_first.Goals as goal

pub returns : goal.returns
returns g c =
    let items = c.args.readers.now.items in
    let old = c.index_mut.result.now in
    let new = c.query.new.reader in
    let bay = bay_seen g.B.Bay.header g.B.Bay.files g.B.Bay.begun g.B.Bay.changes g.B.Bay.failed g.B.Bay.faults c.args.bay.now c.query.new.bay in
    let readers = readers_seen g.R.Reader.faults g.R.Reader.reads g.R.Reader.asked items (slice_set items 0 new) in
    let sink = sink_seen g.K.Sink.contents g.K.Sink.faults c.args.out.now c.query.new.out in
    let some : 0 < length items = search rules in
    let at : (count : g.row.R.Denot → ℕ) → count old ≡ faults_at count items 0 =
    λ count. first_count count items old some c.index_mut.ensures.value in
    let then : (count : g.row.R.Denot → ℕ) → count new ≡ faults_at count (slice_set items 0 new) 0 =
    λ count. placed_count count items new some in
    query_ends c.args.words.now bay readers sink c.query.result
    (means_of_first c.args.words.now bay readers sink
    (record {
      faults_before = g.R.Reader.faults old;
      faults_after = g.R.Reader.faults new;
      reads_before = g.R.Reader.reads old;
      reads_after = g.R.Reader.reads new;
    }) c.query.result (at g.R.Reader.faults) (then g.R.Reader.faults) (at g.R.Reader.reads) (then g.R.Reader.reads)
    c.query.ensures.means)
    c.query.ensures.bay_answered (λ more. c.query.ensures.reader_answered (search rules)) c.query.ensures.sink_answered
    (λ early. subst (λ x. slice_set items 0 x ≡ items) (sym (c.query.ensures.unread early ∙ c.index_mut.ensures.value))
    (set-get_or items 0 old))
    c.query.ensures.unfailed
    (λ some other. few_of_first c.args.words.now bay readers sink
    (record {
      faults_before = g.R.Reader.faults old;
      faults_after = g.R.Reader.faults new;
      reads_before = g.R.Reader.reads old;
      reads_after = g.R.Reader.reads new;
    }) (at g.R.Reader.faults) (then g.R.Reader.faults) (at g.R.Reader.reads) (then g.R.Reader.reads)
    (c.query.ensures.few_reads some other))
    c.query.ensures.header c.query.ensures.files c.query.ensures.begun c.query.ensures.changes c.query.ensures.bay_count c.query.ensures.bay_once
    (search rules) (search rules)
    (count_of_first c.args.words.now bay readers sink (g.R.Reader.faults old) (g.R.Reader.faults new)
    (at g.R.Reader.faults) (then g.R.Reader.faults) c.query.ensures.reader_count)
    (once_of_first c.args.words.now bay readers sink (g.R.Reader.faults old) (g.R.Reader.faults new)
    (at g.R.Reader.faults) (then g.R.Reader.faults) c.query.ensures.reader_once)
    c.query.ensures.sink_count c.query.ensures.sink_once
