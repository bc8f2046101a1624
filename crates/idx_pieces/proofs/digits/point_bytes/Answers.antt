use Rattle.std.proofs.Common.{ℕ, ◌+◌, ◌<◌, length, sym, ap, ◌∙◌, arith}
use Rattle.idx_pieces.specs.Reading.{bytes_before}
use Rattle.idx_pieces.proofs.FieldsLemmas.{bytes-all, bytes-more}
use Rattle.idx_pieces.proofs.digits.point_bytes.Goals as goal

pub returns-clause-bytes : goal.returns-clause-bytes
returns-clause-bytes c =
    let h = c.args.header.now in
    c.fields.invariant.bytes ∙ bytes-all h c.fields.field (omega (arith, c.field_count-field-end.ensures.count))

pub fields-preserved : goal.fields-preserved
fields-preserved c =
    let h = c.args.header.now in
    let lt : c.fields.field < length h.fields = omega (arith, c.fields-test.true, c.fields.auto.field-end, c.field_count-field-end.ensures.count) in
    record {
      bytes = ap (λ (k : ℕ). k + c.sample_bytes-bytes.result) c.fields.invariant.bytes
          ∙ ap (λ (k : ℕ). bytes_before h c.fields.field + k) c.sample_bytes-bytes.ensures.value ∙ sym (bytes-more h c.fields.field lt);
      few = omega (arith, c.fields.invariant.few, c.sample_bytes-bytes.ensures.few);
    }
