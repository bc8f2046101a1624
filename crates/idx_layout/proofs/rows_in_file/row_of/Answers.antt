use Rattle.std.proofs.Common.{◌≡◌, ◌<◌, true, false, length, sym, ◌∙◌, arith}
use Rattle.std.proofs.lemmas.List.{length-map}
use Rattle.idx_fields.specs.Field.{sample_bytes}
use Rattle.idx_layout.specs.Placing.{is_present}
use Rattle.idx_layout.specs.OfHeader.{placing_of}
use Rattle.idx_layout.proofs.HeaderLemmas.{fits_rows, same_bytes}
use Rattle.idx_layout.proofs.RightLemmas.{ends_within}
use Rattle.idx_layout.proofs.RowLemmas.{behind_absent, behind_present}
use Rattle.idx_layout.proofs.rows_in_file.row_of.Goals as goal

pub returns-then-not-is_here-clause-behind : goal.returns-then-not-is_here-clause-behind
returns-then-not-is_here-clause-behind c =
    let h = c.args.header.now in
    let within : c.args.field < length (placing_of h).sizes = omega (arith, length-map h.fields sample_bytes, c.requires.field) in
    let absent : is_present (placing_of h) c.args.block ≡ false = sym c.is_here.ensures.value ∙ c.if-not-is_here.true in
    omega (arith, c.requires.offset, behind_absent (placing_of h) c.args.file c.args.field c.args.block within c.requires.from c.requires.to absent)

pub returns-clause-behind : goal.returns-clause-behind
returns-clause-behind c =
    let h = c.args.header.now in
    let within : c.args.field < length (placing_of h).sizes = omega (arith, length-map h.fields sample_bytes, c.requires.field) in
    let here : is_present (placing_of h) c.args.block ≡ true = sym c.is_here.ensures.value ∙ c.if-not-is_here.false in
    omega (
      arith,
      c.requires.offset,
      c.block_bytes.ensures.value,
      same_bytes h c.args.field c.requires.field,
      behind_present (placing_of h) c.args.file c.args.field c.args.block within c.requires.from c.requires.to here,
    )

pub returns-clause-fits : goal.returns-clause-fits
returns-clause-fits c =
    let h = c.args.header.now in
    let within : c.args.field < length (placing_of h).sizes = omega (arith, length-map h.fields sample_bytes, c.requires.field) in
    let here : is_present (placing_of h) c.args.block ≡ true = sym c.is_here.ensures.value ∙ c.if-not-is_here.false in
    omega (
      arith,
      c.requires.offset,
      c.block_bytes.ensures.value,
      same_bytes h c.args.field c.requires.field,
      ends_within (placing_of h) c.args.file c.args.field c.args.block within c.requires.from c.requires.to here,
      (fits_rows h c.args.file c.is_here.ensures.valid).bytes,
    )
