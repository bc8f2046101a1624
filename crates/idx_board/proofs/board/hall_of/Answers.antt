use Rattle.std.proofs.Common.{◌∙◌}
use Rattle.idx_board.proofs.BoardLemmas.{board_on, cause_on, reads_on, sound_on, times_on}
use Rattle.idx_board.proofs.board.hall_of.Goals as goal

pub returns-in-Err-clause-cause : goal.returns-in-Err-clause-cause
returns-in-Err-clause-cause g c =
    let l = c.loop-number in
    let i = l.invariant in
    cause_on c.args.header.now (g.B.Bay.files c.args.bay.now) (g.B.Bay.files l.bay) _ _ c.in-Err.fault c.steps_of-first.result.0 l.number c.steps_of-first.result.1 c.loop-number-test.true i.numbers i.files
    (λ k. record {
      bay_before = i.quiet k;
      bay_after = g.B.Bay.faults c.publish_step.new.bay;
      failed_before = i.failed k;
      failed_after = g.B.Bay.failed c.publish_step.new.bay;
      reader_before = i.reader_quiet k;
      reader_after = g.R.Reader.faults c.publish_step.new.reader;
    }) i.sound c.in-Err.ensures.cause

pub loop-number-preserved : goal.loop-number-preserved
loop-number-preserved g c =
    let l = c.loop-number in
    let i = l.invariant in
    let h = c.args.header.now in
    let said = c.in-Ok.ensures in
    let known = g.B.Bay.files c.args.bay.now in
    let now = g.B.Bay.files l.bay in
    let first = c.steps_of-first.result.0 in
    record {
      numbers = i.numbers;
      has = i.has;
      few = i.few;
      board = board_on h known now first l.number l.hall.board c.publish_step.new.hall.board i.files i.board said.added;
      times = times_on h now first l.number l.hall.board c.publish_step.new.hall.board i.times said.added;
      sound = sound_on h known now first l.number i.files i.sound said.sound;
      reads = reads_on h known now first l.number (g.R.Reader.reads c.args.reader.now) (g.R.Reader.reads l.reader) (g.R.Reader.reads c.publish_step.new.reader) i.files i.reads said.reads;
      shape = said.shape ∙ i.shape;
      cache = said.cache ∙ i.cache;
      quiet = said.quiet ∙ i.quiet;
      failed = said.failed ∙ i.failed;
      reader_quiet = said.reader_quiet ∙ i.reader_quiet;
      header = said.header ∙ i.header;
      files = said.files ∙ i.files;
      admits = λ path may. said.admits path (i.admits path may);
      begun = said.begun ∙ i.begun;
      changes = said.changes ∙ i.changes;
    }
