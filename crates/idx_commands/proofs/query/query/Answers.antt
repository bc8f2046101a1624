use Rattle.std.proofs.Common.{◌≡◌, ◌∙◌, ap, refl, rules, subst, sym}
use Rattle.idx_extract.specs.Extract.{IsCause, ReadsFew}
use Rattle.idx_commands.specs.QueryRun.{QueryMeans, cause_of_extract, known_of}
use Rattle.idx_commands.specs.Seen.{ReaderCounts, bay_seen, sink_seen}
use Rattle.idx_commands.proofs.AnswerLemmas.{means_of_fault}
use Rattle.idx_commands.proofs.query.query.Goals as goal

pub returns-in-Err-clause-means : goal.returns-in-Err-clause-means
returns-in-Err-clause-means g c =
    let bay = bay_seen g.B.Bay.header g.B.Bay.files g.B.Bay.begun g.B.Bay.changes g.B.Bay.failed g.B.Bay.faults c.args.bay.now c.extract.new.bay in
    let counts : ReaderCounts =
    record {
      faults_before = g.R.Reader.faults c.args.reader.now;
      faults_after = g.R.Reader.faults c.extract.new.reader;
      reads_before = g.R.Reader.reads c.args.reader.now;
      reads_after = g.R.Reader.reads c.extract.new.reader;
    } in
    let sink = sink_seen g.K.Sink.contents g.K.Sink.faults c.args.out.now c.args.out.now in
    let time : c.words.inside.time ≡ c.args.words.now.time = search rules in
    let cause : c.cause_of.result ≡ cause_of_extract c.args.words.now.time c.in-Err.fault =
    c.cause_of.ensures ∙ ap (λ t. cause_of_extract t c.in-Err.fault) time in
    subst (QueryMeans c.args.words.now bay counts sink) (sym cause)
    (means_of_fault c.args.words.now bay counts sink c.in-Err.fault
    (subst (λ question. IsCause question (known_of bay counts) c.in-Err.fault) c.question_of.ensures c.in-Err.ensures.cause) refl)

pub returns-in-Err-clause-few_reads : goal.returns-in-Err-clause-few_reads
returns-in-Err-clause-few_reads g c = λ some other.
    let bay = bay_seen g.B.Bay.header g.B.Bay.files g.B.Bay.begun g.B.Bay.changes g.B.Bay.failed g.B.Bay.faults c.args.bay.now c.extract.new.bay in
    let counts : ReaderCounts =
    record {
      faults_before = g.R.Reader.faults c.args.reader.now;
      faults_after = g.R.Reader.faults c.extract.new.reader;
      reads_before = g.R.Reader.reads c.args.reader.now;
      reads_after = g.R.Reader.reads c.extract.new.reader;
    } in
    subst (λ question. ReadsFew question (known_of bay counts)) c.question_of.ensures c.in-Err.ensures.few_reads
