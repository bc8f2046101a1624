use Rattle.std.proofs.Common.{◌∙◌}
use Rattle.idx_rowmajor.proofs.HeaderLemmas.{to_hz-taken}
use Rattle.idx_rowmajor.proofs.rows.to_hz.Goals as goal

pub returns : goal.returns
returns c =
    to_hz-taken c.args.header.now c.args.field c.args.block c.mask.result c.row_targets-targets.result c.bits_per_block-bits.result c.sample_bytes.result c.args.bytes.now c.take_from_rows.new.bytes
    (record {
      header = c.mask.ensures.valid;
      exists = c.requires.exists;
      same_mask = c.mask.ensures.value;
      same_bits = c.bits_per_block-bits.ensures.value;
      same_size = c.sample_bytes.ensures.value;
    })
    c.row_targets-targets.ensures.value (c.take_from_rows.auto.bytes ∙ c.requires.room) c.take_from_rows.ensures
