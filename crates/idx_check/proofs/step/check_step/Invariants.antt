use Rattle.std.proofs.Common.{◌≡◌, ◌*◌, ◌^◌, ◌≤◌, length}
use Rattle.std.specs.Prelude.{sum_by}
use Rattle.idx_outside.specs.Cause.{AskedFor}
use Rattle.idx_outside.specs.Files.{StillAdmits}
use Rattle.idx_layout.specs.Files.{length_of_file}
use Rattle.idx_layout.specs.OfHeader.{placing_of}
use Rattle.idx_check.specs.Pieces.{ReadsOn}
use Rattle.idx_check.specs.Verdict.{written_before}
use Rattle.idx_check.proofs.StepLemmas.{AreRight}
use Rattle.idx_check.proofs.step.check_step.Given as goal

-- nothing is wrong with the files so far, and the sum is that of those that are written
abbrev pub invariant-loop-i : goal.invariant-loop-i
invariant-loop-i g l =
    let bay = g.B.Bay in
    record {
      right : AreRight l.header l.time (bay.files l.fn.bay) l.i;
      count : l.sum.files ≡ length (written_before (placing_of l.header) l.i);
      sum : l.sum.bytes ≡ sum_by (length_of_file (placing_of l.header)) (written_before (placing_of l.header) l.i);
      few_files : l.sum.files ≤ l.i;
      few_bytes : l.sum.bytes ≤ 2 ^ 31 * (l.header.blocks_per_file * l.i);
      asked : AskedFor (g.R.Reader.asked l.fn.reader) (g.R.Reader.asked l.reader) l.sum.bytes;
      pieces : ReadsOn g.R.Reader.reads g.R.Reader.asked l.fn.reader l.reader 0 l.sum.bytes;
      files : bay.files l.bay ≡ bay.files l.fn.bay;
      header : bay.header l.bay ≡ bay.header l.fn.bay;
      admits : StillAdmits bay.admits l.fn.bay l.bay;
      begun : bay.begun l.bay ≡ bay.begun l.fn.bay;
      changes : bay.changes l.bay ≡ bay.changes l.fn.bay;
      failed : bay.failed l.bay ≡ bay.failed l.fn.bay;
      quiet : bay.faults l.bay ≡ bay.faults l.fn.bay;
      reader_quiet : g.R.Reader.faults l.reader ≡ g.R.Reader.faults l.fn.reader;
    }
