use Rattle.std.proofs.Common.{length, ap, ◌∙◌}
use Rattle.std.proofs.lemmas.List.{length-replicate}
use Rattle.idx_core_forms.proofs.BlockLemmas.{length-overwritten, own_field, own_length}
use Rattle.idx_edition.specs.Tables.{shape_in}
use Rattle.idx_core_forms.proofs.edition.read_block.Goals as goal

pub block_bytes-requires : goal.block_bytes-requires
block_bytes-requires c =
    own_field c.args.header.now (shape_in c.args.edition.now.tables) c.args.field c.requires.shape c.requires.field

pub fetch-requires-clause-room : goal.fetch-requires-clause-room
fetch-requires-clause-room c =
    ap length (c.as_mut_slice.ensures.value ∙ c.in_ok-bytes.ensures) ∙ length-replicate c.block_bytes.result 0 ∙ c.block_bytes.ensures.value
    ∙ own_length c.args.header.now (shape_in c.args.edition.now.tables) c.args.field c.requires.shape c.requires.field

pub returns-clause-length : goal.returns-clause-length
returns-clause-length c =
    length-overwritten c.in_ok-bytes.bytes c.fetch.new.into
    ∙ ap length c.in_ok-bytes.ensures ∙ length-replicate c.block_bytes.result 0 ∙ c.block_bytes.ensures.value
    ∙ own_length c.args.header.now (shape_in c.args.edition.now.tables) c.args.field c.requires.shape c.requires.field
