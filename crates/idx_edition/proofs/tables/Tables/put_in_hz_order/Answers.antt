use Rattle.std.proofs.Common.{◌≡◌, ◌<◌, length, sym, subst, ◌∙◌}
use Rattle.std.specs.Prelude.{slice_index}
use Rattle.idx_layout.specs.OfHeader.{placing_of}
use Rattle.idx_layout.specs.Shape.{block_lengths}
use Rattle.idx_edition.specs.Tables.{TablesValue}
use Rattle.idx_edition.proofs.OrderLemmas.{bytes_of_header, field_of_header}
use Rattle.idx_edition.proofs.tables.Tables.put_in_hz_order.Goals as goal

pub to_hz-requires-clause-field : goal.to_hz-requires-clause-field
to_hz-requires-clause-field c =
    field_of_header c.self.inside.header c.args.field
    (subst (λ (t : TablesValue). c.args.field < length (block_lengths (placing_of t.header))) (sym c.self.view_is) c.requires.field)

pub to_hz-requires-clause-room : goal.to_hz-requires-clause-room
to_hz-requires-clause-room c =
    subst (λ (t : TablesValue). length c.args.bytes.now ≡ slice_index (block_lengths (placing_of t.header)) c.args.field) (sym c.self.view_is) c.requires.room
    ∙ bytes_of_header c.self.inside.header c.args.field
    (subst (λ (t : TablesValue). c.args.field < length (block_lengths (placing_of t.header))) (sym c.self.view_is) c.requires.field)
