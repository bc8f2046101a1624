use Rattle.std.proofs.Common.{◌+◌, sym, ap, ◌∙◌, arith}
use Rattle.idx_layout.specs.OfHeader.{placing_of}
use Rattle.idx_check.proofs.StepLemmas.{few_bytes_of_file, length_unwritten, length_written}
use Rattle.idx_check.proofs.step.Sum.with_file.Goals as goal

pub overflow_add-result-then-is_written : goal.overflow_add-result-then-is_written
overflow_add-result-then-is_written c =
    omega (arith, c.file_len.ensures, few_bytes_of_file c.args.header.now c.args.file c.is_written.ensures.valid, c.is_written.ensures.valid.blocks_few, c.requires.few_bytes)

pub returns-then-is_written-clause-bytes : goal.returns-then-is_written-clause-bytes
returns-then-is_written-clause-bytes c =
    ap (λ n. c.args.self.bytes + n)
    (c.file_len.ensures ∙ sym (length_written (placing_of c.args.header.now) c.args.file (sym c.is_written.ensures.value ∙ c.if-is_written.true)))

pub returns-else-is_written-clause-bytes : goal.returns-else-is_written-clause-bytes
returns-else-is_written-clause-bytes c =
    let none = length_unwritten (placing_of c.args.header.now) c.args.file (sym c.is_written.ensures.value ∙ c.if-is_written.false) in
    omega (arith, none)
