use Rattle.std.proofs.Common.{◌≡◌, length, sym, ap, ◌∙◌}
use Rattle.std.proofs.lemmas.List.{length-replicate}
use Rattle.idx_query.proofs.AnswerLemmas.{field_length, has_field}
use Rattle.idx_core_asks.proofs.reading.fetched.Goals as goal

pub fetch-requires-clause-field : goal.fetch-requires-clause-field
fetch-requires-clause-field g c = has_field c.args.header.now (g.E.Blocks.shape c.args.edition.now) c.args.field c.requires.shape c.requires.field

pub fetch-requires-clause-room : goal.fetch-requires-clause-room
fetch-requires-clause-room g c =
    ap length (c.as_mut_slice.ensures.value ∙ c.in_ok-bytes.ensures) ∙ length-replicate c.block_bytes.result 0 ∙ c.block_bytes.ensures.value
    ∙ sym (field_length c.args.header.now (g.E.Blocks.shape c.args.edition.now) c.args.field c.requires.shape c.requires.field)
