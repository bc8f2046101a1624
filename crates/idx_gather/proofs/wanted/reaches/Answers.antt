use Rattle.std.proofs.Common.{◌≡◌, ℕ, ◌+◌, ◌-◌, List, sym, subst, ap, ◌∙◌, arith}
use Rattle.std.specs.Prelude.{filter}
use Rattle.std.specs.List.{range_with_len}
use Rattle.idx_layout.specs.Placing.{has_point_in}
use Rattle.idx_hz.specs.Mask.{HasAddress}
use Rattle.idx_dock.proofs.DockLemmas.{file_end, file_exists, is_some-first}
use Rattle.idx_geom.specs.Region.{upper_ends}
use Rattle.idx_gather.proofs.DockingLemmas.{piece_address}
use Rattle.idx_gather.proofs.wanted.reaches.Goals as goal

pub overflow_add-end : goal.overflow_add-end
overflow_add-end c =
    let h = c.args.header.now in
    omega (arith, c.blocks_per_file.ensures.value, file_end h c.args.file c.blocks_per_file.ensures.valid (file_exists h c.args.file c.requires.file))

pub blocks_in-blocks-requires-clause-address : goal.blocks_in-blocks-requires-clause-address
blocks_in-blocks-requires-clause-address c =
    let h = c.args.header.now in
    subst (λ (m : List ℕ). HasAddress m (upper_ends c.args.piece.now.region)) (sym c.mask.ensures.value)
    (piece_address h c.args.piece.now c.blocks_per_file.ensures.valid c.requires.piece)

pub returns : goal.returns
returns c =
    let h = c.args.header.now in
    let region = c.args.piece.now.region in
    let file = c.args.file in
    let end = file + c.blocks_per_file.result in
    let mask = c.mask.ensures.value in
    let bits = c.bits_per_block.ensures.value in
    let count : end - file ≡ h.blocks_per_file = omega (arith, c.blocks_per_file.ensures.value) in
    let all : c.blocks_in-blocks.result ≡ filter (has_point_in h.mask region h.block_bits) (range_with_len file h.blocks_per_file) =
    c.blocks_in-blocks.ensures
    ∙ ap (λ (m : List ℕ). filter (has_point_in m region c.bits_per_block.result) (range_with_len file (end - file))) mask
    ∙ ap (λ (b : ℕ). filter (has_point_in h.mask region b) (range_with_len file (end - file))) bits
    ∙ ap (λ (n : ℕ). filter (has_point_in h.mask region h.block_bits) (range_with_len file n)) count in
    c.is_some.ensures
    ∙ is_some-first (has_point_in h.mask region h.block_bits) (range_with_len file h.blocks_per_file) c.blocks_in-blocks.result c.next.new.self c.next.result all c.next.ensures.steps
