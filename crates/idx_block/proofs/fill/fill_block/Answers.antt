use Rattle.std.proofs.Common.{◌≡◌, ℕ, List, ◌*◌, ◌^◌, sym, ap, ◌∙◌, arith}
use Rattle.std.specs.List.{flat_map, range_with_len}
use Rattle.idx_header.specs.Header.{sample_bytes_of}
use Rattle.idx_block.specs.Stored.{stored}
use Rattle.idx_block.proofs.StoredLemmas.{block-of_header}
use Rattle.idx_block.proofs.fill.fill_block.Goals as goal

pub returns-then-block-eq0 : goal.returns-then-block-eq0
returns-then-block-eq0 c =
    let count : ℕ = 2 ^ c.bits_per_block-bits.result in
    let want : ℕ → List ℕ = stored c.mask-mask.result c.region-region.result c.sample_bytes-size.result c.args.samples.now in
    let none : 0 ≡ 0 * count = omega arith in
    let first : 0 ≡ c.args.block * count = none ∙ sym (ap (λ n. n * count) c.if-block-eq0.true) in
    block-of_header c.args.header.now c.mask-mask.result c.region-region.result c.bits_per_block-bits.result
    (sample_bytes_of c.args.header.now c.args.field) c.sample_bytes-size.result c.args.samples.now c.args.block c.fill_first_block.new.into
    c.mask-mask.ensures.value c.region-region.ensures.value c.bits_per_block-bits.ensures.value c.sample_bytes-size.ensures.value (c.fill_first_block.ensures
    ∙ ap (λ n. flat_map want (range_with_len n count)) first)

pub returns-else-block-eq0 : goal.returns-else-block-eq0
returns-else-block-eq0 c =
    block-of_header c.args.header.now c.mask-mask.result c.region-region.result c.bits_per_block-bits.result
    (sample_bytes_of c.args.header.now c.args.field) c.sample_bytes-size.result c.args.samples.now c.args.block c.fill_by_lanes.new.into
    c.mask-mask.ensures.value c.region-region.ensures.value c.bits_per_block-bits.ensures.value c.sample_bytes-size.ensures.value c.fill_by_lanes.ensures
