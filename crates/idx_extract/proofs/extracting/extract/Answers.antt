use Rattle.std.proofs.Common.{◌≡◌, refl, subst}
use Rattle.idx_header.specs.Header.{HeaderValue}
use Rattle.idx_extract.specs.Extract.{IsCause, IsCauseUnder, Known, ReadsFew, ReadsFewUnder, known}
use Rattle.idx_extract.specs.Stages.{fault_of_header}
use Rattle.idx_extract.proofs.AloneLemmas.{err-following}
use Rattle.idx_extract.proofs.AskLemmas.{cause_of_text}
use Rattle.idx_extract.proofs.CauseLemmas.{err_is, few_of_text, header_cause, on_err_following}
use Rattle.idx_extract.proofs.extracting.extract.Goals as goal

pub returns-in_err-header-clause-cause : goal.returns-in_err-header-clause-cause
returns-in_err-header-clause-cause g c =
    let bay = g.B.Bay in
    let refusal = c.in_err-header.field-0.0 in
    let k = known bay.header bay.files bay.faults bay.failed g.R.Reader.faults g.R.Reader.reads c.args.bay.now c.of_bay.new.bay c.args.reader.now c.args.reader.now in
    err_is c.from_residual.result (fault_of_header refusal) (IsCause c.args.question.now k) c.from_residual.ensures.1
    (header_cause HeaderValue c.args.question.now k refusal c.in_err-header.ensures.refused c.in_err-header.ensures.failed refl)

pub returns-clause-cause : goal.returns-clause-cause
returns-clause-cause g c =
    let bay = g.B.Bay in
    let h = c.in_ok-header.header in
    let q = c.args.question.now in
    let read = c.in_ok-header.ensures in
    let since = known bay.header bay.files bay.faults bay.failed g.R.Reader.faults g.R.Reader.reads c.of_bay.new.bay c.answer.new.bay c.args.reader.now c.answer.new.reader in
    let k = known bay.header bay.files bay.faults bay.failed g.R.Reader.faults g.R.Reader.reads c.args.bay.now c.answer.new.bay c.args.reader.now c.answer.new.reader in
    let same : ◌≡◌ {A = Known} since k = λ i. record {
      header = read.asks.header_same i;
      files = read.asks.files_same i;
      counts = record {
        bay_before = read.asks.quiet i;
        bay_after = bay.faults c.answer.new.bay;
        failed_before = read.failed i;
        failed_after = bay.failed c.answer.new.bay;
        reader_before = g.R.Reader.faults c.args.reader.now;
        reader_after = g.R.Reader.faults c.answer.new.reader;
      };
      reads_before = g.R.Reader.reads c.args.reader.now;
      reads_after = g.R.Reader.reads c.answer.new.reader;
    } in
    err-following (IsCauseUnder h q since) (IsCause q k) c.answer.result c.answer.ensures.cause
    (λ fault cause. cause_of_text k h q fault read.gives (subst (λ (l : Known). IsCauseUnder h q l fault) same cause))

pub returns-clause-few_reads : goal.returns-clause-few_reads
returns-clause-few_reads g c =
    let bay = g.B.Bay in
    let h = c.in_ok-header.header in
    let q = c.args.question.now in
    let read = c.in_ok-header.ensures in
    let since = known bay.header bay.files bay.faults bay.failed g.R.Reader.faults g.R.Reader.reads c.of_bay.new.bay c.answer.new.bay c.args.reader.now c.answer.new.reader in
    let k = known bay.header bay.files bay.faults bay.failed g.R.Reader.faults g.R.Reader.reads c.args.bay.now c.answer.new.bay c.args.reader.now c.answer.new.reader in
    let same : ◌≡◌ {A = Known} since k = λ i. record {
      header = read.asks.header_same i;
      files = read.asks.files_same i;
      counts = record {
        bay_before = read.asks.quiet i;
        bay_after = bay.faults c.answer.new.bay;
        failed_before = read.failed i;
        failed_after = bay.failed c.answer.new.bay;
        reader_before = g.R.Reader.faults c.args.reader.now;
        reader_after = g.R.Reader.faults c.answer.new.reader;
      };
      reads_before = g.R.Reader.reads c.args.reader.now;
      reads_after = g.R.Reader.reads c.answer.new.reader;
    } in
    on_err_following (ReadsFewUnder h q since) (ReadsFew q k) c.answer.result c.answer.ensures.few_reads
    (λ few. few_of_text h q k read.gives (subst (λ (l : Known). ReadsFewUnder h q l) same few))
