use Rattle.std.proofs.Common.{◌≡◌, ◌++◌, ◌∷◌, [], map, sym, ap, ◌∙◌, arith, zero-add}
use Rattle.std.specs.List.{range_with_len}
use Rattle.std.proofs.lemmas.List.{length-map}
use Rattle.std.proofs.lemmas.List.FromFn.{map-range_with_len_more}
use Rattle.idx_fields.specs.Field.{sample_bytes}
use Rattle.idx_layout.specs.Placing.{block_bytes}
use Rattle.idx_layout.specs.OfHeader.{placing_of}
use Rattle.idx_layout.proofs.HeaderLemmas.{same_bytes}
use Rattle.idx_edition.proofs.lengths.block_lengths.Goals as goal

pub loop-field-preserved : goal.loop-field-preserved
loop-field-preserved c =
    let h = c.args.header.now in
    let i = c.loop-field.field in
    let one : c.block_bytes.result ≡ block_bytes (placing_of h) i =
    c.block_bytes.ensures.value ∙ sym (same_bytes h i (omega (arith, c.loop-field-test.true, c.field_count-field-end.ensures.count))) in
    c.in_ok-push.ensures.items ∙ ap (λ lengths. lengths ++ c.block_bytes.result ∷ []) c.loop-field.invariant
    ∙ ap (λ n. map (block_bytes (placing_of h)) (range_with_len 0 i) ++ n ∷ []) one
    ∙ sym (map-range_with_len_more (block_bytes (placing_of h)) 0 i i (zero-add i))

pub returns : goal.returns
returns c =
    let h = c.args.header.now in
    c.loop-field.invariant
    ∙ ap (λ n. map (block_bytes (placing_of h)) (range_with_len 0 n)) (omega (arith, c.loop-field-test.false, c.loop-field.auto.field-end, c.field_count-field-end.ensures.count) ∙ sym (length-map h.fields sample_bytes))
