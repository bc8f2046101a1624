use Rattle.std.proofs.Common.{◌≤◌, ◌/◌, ◌%◌, ◌+◌, min, ap, ◌∙◌, arith}
use Rattle.idx_header.specs.Header.{block_count}
use Rattle.idx_check.proofs.NatLemmas.{rounded_up}
use Rattle.idx_check.proofs.step.all_files.Goals as goal

pub returns-clause-value : goal.returns-clause-value
returns-clause-value c =
    let h = c.args.header.now in
    let some : 1 ≤ h.blocks_per_file = omega (arith, c.blocks_per_file.ensures.some, c.blocks_per_file.ensures.value) in
    c.div_ceil.ensures
    ∙ ap (λ n. n / c.blocks_per_file.result + min 1 (n % c.blocks_per_file.result)) c.block_count.ensures.value
    ∙ ap (λ p. block_count h / p + min 1 (block_count h % p)) c.blocks_per_file.ensures.value
    ∙ rounded_up (block_count h) h.blocks_per_file some
