use Rattle.std.proofs.Common.{length, ap, ◌∙◌, arith, List}
use Rattle.std.specs.Prelude.{sum_by}
use Rattle.idx_outside.specs.declared.mem_file.MemFile.{MemFile}
use Rattle.idx_drill.specs.Drilled.{drill_files}
use Rattle.idx_drill.proofs.WritingLemmas.{bytes-few, files-bytes}
use Rattle.idx_drill.proofs.writing.write_step.Goals as goal

pub bytes_of-requires : goal.bytes_of-requires
bytes_of-requires g c =
    let written = c.in_ok-written.ensures.files in
    omega (
      arith,
      ap (λ (files : List MemFile). sum_by (λ (file : MemFile). length file.bytes) files) (c.committed-2.ensures ∙ written.1)
          ∙ files-bytes written.0 (drill_files c.args.number),
      bytes-few c.args.number c.requires.few,
    )
