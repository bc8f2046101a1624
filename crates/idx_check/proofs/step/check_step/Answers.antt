use Rattle.std.proofs.Common.{◌≡◌, ℕ, ◌+◌, ◌<◌, ◌*◌, Ok, ap, ◌∙◌, subst, arith}
use Rattle.std.specs.Option.{option_map}
use Rattle.idx_header.specs.Header.{HeaderValue, IsHeader}
use Rattle.idx_layout.specs.OfHeader.{placing_of}
use Rattle.idx_layout.specs.Placing.{Placing}
use Rattle.idx_check.specs.Verdict.{file_count, is_written, written_length}
use Rattle.idx_check.specs.declared.verdict.Verdict.TheVariants.{Wrong}
use Rattle.idx_check.specs.Pieces.{ReadsOn}
use Rattle.idx_check.proofs.PiecesLemmas.{most_of_wrong, reads_both, reads_wider}
use Rattle.idx_check.proofs.StepLemmas.{asked_next, bytes_next, count_next, few_files_next, few_next, first_is, nothing_is, place, right_next}
use Rattle.idx_check.proofs.step.check_step.Goals as goal

pub overflow_mul-file : goal.overflow_mul-file
overflow_mul-file g c =
    let h : HeaderValue = c.args.header.now in
    let within : c.loop-i.i < file_count (placing_of h) = omega (arith, c.loop-i-test.true, c.all_files-i-end.ensures.value) in
    let here = place h c.loop-i.i c.blocks_per_file.result c.blocks_per_file.ensures.valid c.blocks_per_file.ensures.value within in
    omega (arith, here.few)

pub with_file-sum-requires-clause-few_bytes : goal.with_file-sum-requires-clause-few_bytes
with_file-sum-requires-clause-few_bytes g c =
    let h : HeaderValue = c.args.header.now in
    let within : c.loop-i.i < file_count (placing_of h) = omega (arith, c.loop-i-test.true, c.all_files-i-end.ensures.value) in
    let here = place h c.loop-i.i c.blocks_per_file.result c.blocks_per_file.ensures.valid c.blocks_per_file.ensures.value within in
    omega (arith, here.begins, here.few, c.loop-i.invariant.few_bytes)

pub returns-in-Some-clause-verdict : goal.returns-in-Some-clause-verdict
returns-in-Some-clause-verdict g c =
    let h : HeaderValue = c.args.header.now in
    let bay = g.B.Bay in
    let i : ℕ = c.loop-i.i in
    let file : ℕ = i * c.blocks_per_file.result in
    let before = c.loop-i.invariant in
    let valid : IsHeader h = c.blocks_per_file.ensures.valid in
    let within : i < file_count (placing_of h) = omega (arith, c.loop-i-test.true, c.all_files-i-end.ensures.value) in
    let here = place h i c.blocks_per_file.result valid c.blocks_per_file.ensures.value within in
    first_is h c.args.time file i here.begins (bay.files c.args.bay.now) (bay.files c.loop-i.bay) (option_map (λ w. Wrong file w.at w.why) c.in_ok-wrong.wrong)
    (Wrong file c.in-Some.first.at c.in-Some.first.why) valid within before.files (ap (option_map (λ w. Wrong file w.at w.why)) c.in-Some.is) c.in_ok-wrong.ensures.found before.right

pub loop-i-preserved : goal.loop-i-preserved
loop-i-preserved g c =
    let h : HeaderValue = c.args.header.now in
    let l : Placing = placing_of h in
    let bay = g.B.Bay in
    let asked = g.R.Reader.asked in
    let i : ℕ = c.loop-i.i in
    let before = c.loop-i.invariant in
    let valid : IsHeader h = c.blocks_per_file.ensures.valid in
    let within : i < file_count l = omega (arith, c.loop-i-test.true, c.all_files-i-end.ensures.value) in
    let here = place h i c.blocks_per_file.result valid c.blocks_per_file.ensures.value within in
    let file : ℕ = i * c.blocks_per_file.result in
    let found = c.in_ok-wrong.ensures in
    let more = c.with_file-sum in
    record {
      right = right_next h c.args.time file i here.begins (bay.files c.args.bay.now) (bay.files c.loop-i.bay) (option_map (λ w. Wrong file w.at w.why) c.in_ok-wrong.wrong) before.files
          (ap (option_map (λ w. Wrong file w.at w.why)) c.in_default.is) found.found before.right;
      count = count_next l file i c.loop-i.sum.files more.result.files here.begins before.count more.ensures.files;
      sum = bytes_next l file i c.loop-i.sum.bytes more.result.bytes here.begins before.sum more.ensures.bytes;
      few_files = few_files_next (is_written l file) c.loop-i.sum.files i more.result.files before.few_files more.ensures.files;
      few_bytes = few_next h file i c.loop-i.sum.bytes more.result.bytes valid before.few_bytes more.ensures.bytes;
      asked = asked_next (asked c.args.reader.now) (asked c.loop-i.reader) (asked c.wrong_with.new.reader) c.loop-i.sum.bytes (written_length l file) more.result.bytes before.asked
          (found.whole (ap Ok c.in_default.is)) more.ensures.bytes;
      pieces = reads_both (g.R.Reader.reads c.args.reader.now) (g.R.Reader.reads c.loop-i.reader) (g.R.Reader.reads c.wrong_with.new.reader) (asked c.args.reader.now) (asked c.loop-i.reader) (asked c.wrong_with.new.reader)
          0 c.loop-i.sum.bytes more.result.bytes before.pieces
          (reads_wider (g.R.Reader.reads c.loop-i.reader) (g.R.Reader.reads c.wrong_with.new.reader) (asked c.loop-i.reader) (asked c.wrong_with.new.reader) 0 (written_length l file) c.loop-i.sum.bytes more.result.bytes
          (omega (arith, more.ensures.bytes)) found.pieces);
      files = found.files ∙ before.files;
      header = found.header ∙ before.header;
      admits = λ path admitted. found.admits path (before.admits path admitted);
      begun = found.begun ∙ before.begun;
      changes = found.changes ∙ before.changes;
      failed = found.failed ∙ before.failed;
      quiet = found.quiet ∙ before.quiet;
      reader_quiet = found.reader_quiet ∙ before.reader_quiet;
    }

pub returns-in-Some-clause-pieces : goal.returns-in-Some-clause-pieces
returns-in-Some-clause-pieces g c =
    let h : HeaderValue = c.args.header.now in
    let l : Placing = placing_of h in
    let reads = g.R.Reader.reads in
    let asked = g.R.Reader.asked in
    let i : ℕ = c.loop-i.i in
    let before = c.loop-i.invariant in
    let valid : IsHeader h = c.blocks_per_file.ensures.valid in
    let within : i < file_count l = omega (arith, c.loop-i-test.true, c.all_files-i-end.ensures.value) in
    let here = place h i c.blocks_per_file.result valid c.blocks_per_file.ensures.value within in
    let file : ℕ = i * c.blocks_per_file.result in
    let total = most_of_wrong l file i c.in-Some.first.at c.loop-i.sum.bytes c.in-Some.first.why valid.blocks_some here.begins before.sum in
    subst (λ (n : ℕ). ReadsOn reads asked c.args.reader.now c.wrong_with.new.reader 0 n) total
    (reads_both (reads c.args.reader.now) (reads c.loop-i.reader) (reads c.wrong_with.new.reader) (asked c.args.reader.now) (asked c.loop-i.reader) (asked c.wrong_with.new.reader)
    0 c.loop-i.sum.bytes (c.loop-i.sum.bytes + written_length l file) before.pieces
    (reads_wider (reads c.loop-i.reader) (reads c.wrong_with.new.reader) (asked c.loop-i.reader) (asked c.wrong_with.new.reader) 0 (written_length l file) c.loop-i.sum.bytes (c.loop-i.sum.bytes + written_length l file)
    (omega arith) c.in_ok-wrong.ensures.pieces))

pub returns-clause-verdict : goal.returns-clause-verdict
returns-clause-verdict g c =
    let h : HeaderValue = c.args.header.now in
    let before = c.loop-i.invariant in
    let all : c.loop-i.i ≡ file_count (placing_of h) = omega (arith, c.loop-i-test.false, c.loop-i.auto.i-end, c.all_files-i-end.ensures.value) in
    nothing_is h c.args.time c.loop-i.i c.loop-i.sum.files c.loop-i.sum.bytes (g.B.Bay.files c.args.bay.now) c.all_files-i-end.ensures.valid all before.count before.sum before.right
