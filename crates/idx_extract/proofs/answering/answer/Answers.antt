use Rattle.std.proofs.Common.{◌∙◌, length, sym, ap, subst, arith}
use Rattle.std.proofs.lemmas.List.{length-map}
use Rattle.idx_outside.specs.Files.{entry_shown, shown}
use Rattle.idx_plan.specs.QuestionValue.{QuestionValue}
use Rattle.idx_plan.specs.declared.ask.Ask.{Ask}
use Rattle.idx_edition.specs.Tables.{has_in_tables, shape_in, stored_in}
use Rattle.idx_query.specs.Steps.{IsStoreFault}
use Rattle.idx_extract.specs.Extract.{IsCauseUnder, ReadsFewUnder, known}
use Rattle.idx_extract.specs.Stages.{fault_of_query}
use Rattle.idx_extract.proofs.AskLemmas.{stop_is_cause}
use Rattle.idx_extract.proofs.CauseLemmas.{err_is, few_of_blocks, few_of_files, on_err, query_cause}
use Rattle.idx_extract.proofs.StoredLemmas.{is_answer_known}
use Rattle.idx_extract.proofs.answering.answer.Goals as goal

pub returns-in_err-ask-clause-cause : goal.returns-in_err-ask-clause-cause
returns-in_err-ask-clause-cause g c =
    let bay = g.B.Bay in
    let k = known bay.header bay.files bay.faults bay.failed g.R.Reader.faults g.R.Reader.reads c.args.bay.now c.args.bay.now c.args.reader.now c.args.reader.now in
    err_is c.from_residual.result c.in_err-ask.field-0.0 (IsCauseUnder c.args.header.now c.args.question.now k) c.from_residual.ensures.1
    (stop_is_cause c.args.header.now c.args.question.now k c.in_err-ask.field-0.0 (c.in_err-ask.ensures.stop (bay.files c.args.bay.now)))

pub returns-in_err-edition-clause-cause : goal.returns-in_err-edition-clause-cause
returns-in_err-edition-clause-cause g c =
    let bay = g.B.Bay in
    let k = known bay.header bay.files bay.faults bay.failed g.R.Reader.faults g.R.Reader.reads c.args.bay.now c.open_step.new.bay c.args.reader.now c.open_step.new.reader in
    err_is c.from_residual-in_err-edition.result c.in_err-edition.field-0.0 (IsCauseUnder c.args.header.now c.args.question.now k) c.from_residual-in_err-edition.ensures.1
    (c.in_err-edition.ensures.cause c.args.question.now (sym (ap (λ (q : QuestionValue). q.time) c.question.view_is))
    (c.in_ok-ask.ask, (c.in_ok-ask.ensures.asked, c.in_ok-ask.ensures.sound)))

pub returns-in_err-edition-clause-few_reads : goal.returns-in_err-edition-clause-few_reads
returns-in_err-edition-clause-few_reads g c =
    let bay = g.B.Bay in
    let k = known bay.header bay.files bay.faults bay.failed g.R.Reader.faults g.R.Reader.reads c.args.bay.now c.open_step.new.bay c.args.reader.now c.open_step.new.reader in
    on_err c.from_residual-in_err-edition.result (ReadsFewUnder c.args.header.now c.args.question.now k)
    (few_of_files c.args.header.now c.args.question.now k c.in_ok-ask.ask c.in_ok-ask.ensures.asked c.in_ok-ask.ensures.sound c.question.inside.time
    (ap (λ (q : QuestionValue). q.time) c.question.view_is) c.in_err-edition.ensures.few_reads)

pub returns-in_err-answer_alone-clause-cause : goal.returns-in_err-answer_alone-clause-cause
returns-in_err-answer_alone-clause-cause g c =
    let bay = g.B.Bay in
    let opened = c.in_ok-edition.ensures in
    let fault = c.in_err-answer_alone.field-0.0 in
    let k = known bay.header bay.files bay.faults bay.failed g.R.Reader.faults g.R.Reader.reads c.args.bay.now c.open_step.new.bay c.args.reader.now c.answer_alone.new.reader in
    err_is c.from_residual-in_err-answer_alone.result (fault_of_query fault) (IsCauseUnder c.args.header.now c.args.question.now k) c.from_residual-in_err-answer_alone.ensures.1
    (query_cause c.args.header.now c.args.question.now k fault (c.in_ok-ask.ask, (c.in_ok-ask.ensures.asked, c.in_ok-ask.ensures.sound))
    (record { count = opened.bay_quiet; failed = opened.kept })
    (subst (λ n. IsStoreFault n (g.R.Reader.faults c.answer_alone.new.reader) fault) opened.reader_quiet c.in_err-answer_alone.ensures.cause))

pub returns-in_err-answer_alone-clause-few_reads : goal.returns-in_err-answer_alone-clause-few_reads
returns-in_err-answer_alone-clause-few_reads g c =
    let bay = g.B.Bay in
    let opened = c.in_ok-edition.ensures in
    let k = known bay.header bay.files bay.faults bay.failed g.R.Reader.faults g.R.Reader.reads c.args.bay.now c.open_step.new.bay c.args.reader.now c.answer_alone.new.reader in
    on_err c.from_residual-in_err-answer_alone.result (ReadsFewUnder c.args.header.now c.args.question.now k)
    (few_of_blocks c.args.header.now c.args.question.now k c.in_ok-ask.ask c.in_ok-ask.ensures.asked c.in_ok-ask.ensures.sound c.in_ok-edition.edition.tables.header c.question.inside.time
    (g.R.Reader.reads c.open_step.new.reader) (length c.in_ok-edition.edition.leaves.items)
    (ap (λ (q : QuestionValue). q.time) c.question.view_is) opened.newest opened.few opened.reads c.in_err-answer_alone.ensures.few_reads)

pub returns-clause-extracted : goal.returns-clause-extracted
returns-clause-extracted g c =
    let bay = g.B.Bay in
    let ask = c.in_ok-ask.ask in
    let asked = c.in_ok-ask.ensures.asked in
    let opened = c.in_ok-edition.ensures in
    let edition = c.in_ok-edition.edition in
    let done = c.in_ok-answer_alone.ensures in
    let leaves = shown g.B.Leaf.Leaf.contents edition.leaves.items in
    let time = ap (λ (q : QuestionValue). q.time) c.question.view_is ∙ sym (ap (λ (a : Ask). a.time) asked.same) in
    record {
      ask = ask;
      asked = asked;
      sound = c.in_ok-ask.ensures.sound;
      many = omega (arith, done.length, ap length c.new-bytes.ensures);
      stored =
          is_answer_known (bay.files c.args.bay.now) c.args.header.now edition.tables.header ask c.question.inside.time (shape_in edition.tables) (has_in_tables edition.tables)
          (stored_in edition.tables leaves) leaves (length edition.leaves.items) c.in_ok-answer_alone.field-0
          (g.R.Reader.reads c.args.reader.now) (g.R.Reader.reads c.open_step.new.reader) (g.R.Reader.reads c.answer_alone.new.reader) c.new-bytes.result c.answer_alone.new.out
          time opened.holds opened.newest opened.shape asked.field c.in_ok-ask.ensures.valid.bits_within
          (sym (length-map edition.leaves.items (entry_shown g.B.Leaf.Leaf.contents)))
          opened.reads done.reads done.once done.absent c.new-bytes.ensures done.answer;
    }
