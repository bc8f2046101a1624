use Rattle.std.proofs.Common.{ℕ, codes}
use Rattle.std.specs.Fmt.{decimal}
use Rattle.idx_header.specs.Header.{block_count}
use Rattle.idx_commands.specs.Summary.{line, block_lines}
use Rattle.idx_commands.proofs.SummaryLemmas.{two_lines}
use Rattle.idx_commands.proofs.summary.write_blocks.Goals as goal

pub returns : goal.returns
unfolding block_lines
returns c =
    two_lines (λ (n : ℕ). line (codes "blocksperfile") (decimal n)) (λ (n : ℕ). line (codes "blocks") (decimal n))
    c.args.header.now.blocks_per_file (block_count c.args.header.now) c.blocks_per_file.result c.block_count.result
    c.args.out.now c.write_line.new.out c.write_line-2.new.out c.blocks_per_file.ensures.value c.block_count.ensures.value
    c.in_ok-write_line.ensures c.in_ok-write_line-2.ensures
