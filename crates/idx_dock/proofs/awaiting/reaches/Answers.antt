use Rattle.std.proofs.Common.{◌≡◌, ℕ, ◌-◌, List, ap, ◌∙◌, arith}
use Rattle.std.specs.Prelude.{filter}
use Rattle.std.specs.List.{range_with_len}
use Rattle.idx_layout.specs.Placing.{has_point_in}
use Rattle.idx_dock.proofs.DockLemmas.{is_some-first}
use Rattle.idx_dock.proofs.awaiting.reaches.Goals as goal

pub returns : goal.returns
returns c =
    let h = c.args.header.now in
    let region = c.args.region.now in
    let file = c.args.file in
    let end = c.args.end in
    let mask = c.mask.ensures.value in
    let bits = c.bits_per_block.ensures.value in
    let count : end - file ≡ h.blocks_per_file = omega (arith, c.requires.end) in
    let all : c.blocks_in-blocks.result ≡ filter (has_point_in h.mask region h.block_bits) (range_with_len file h.blocks_per_file) =
    c.blocks_in-blocks.ensures
    ∙ ap (λ (m : List ℕ). filter (has_point_in m region c.bits_per_block.result) (range_with_len file (end - file))) mask
    ∙ ap (λ (b : ℕ). filter (has_point_in h.mask region b) (range_with_len file (end - file))) bits
    ∙ ap (λ (n : ℕ). filter (has_point_in h.mask region h.block_bits) (range_with_len file n)) count in
    c.is_some.ensures
    ∙ is_some-first (has_point_in h.mask region h.block_bits) (range_with_len file h.blocks_per_file) c.blocks_in-blocks.result c.next.new.self c.next.result all c.next.ensures.steps
