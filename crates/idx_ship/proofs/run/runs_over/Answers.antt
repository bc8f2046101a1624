use Rattle.std.proofs.Common.{◌≡◌, ℕ, ◌*◌, ◌<◌, List, length, ◌∙◌, arith}
use Rattle.idx_geom.specs.Region.{points}
use Rattle.idx_header.specs.Header.{sample_bytes_of}
use Rattle.idx_ship.proofs.ShipmentLemmas.{field_fits, left_more, made_more}
use Rattle.idx_ship.proofs.run.runs_over.Goals as goal

pub split_at-requires : goal.split_at-requires
split_at-requires c =
    let h = c.args.header.now in
    let region : List (ℕ × ℕ) = c.args.region.now in
    let exists : c.loop-field.field < length h.fields = omega (arith, c.loop-field-test.true, c.field_count-field-end.ensures.count) in
    let mid : ℕ = c.count-points.result * c.sample_bytes-size.result in
    let same : mid ≡ length (points region) * sample_bytes_of h c.loop-field.field = λ i. c.count-points.ensures.count i * c.sample_bytes-size.ensures.value i in
    field_fits h region c.args.bytes.now c.requires.bytes c.loop-field.field mid c.loop-field.rest.now exists same c.loop-field.invariant.left

pub loop-field-preserved : goal.loop-field-preserved
loop-field-preserved c =
    let h = c.args.header.now in
    let region : List (ℕ × ℕ) = c.args.region.now in
    let field : ℕ = c.loop-field.field in
    let exists : field < length h.fields = omega (arith, c.loop-field-test.true, c.field_count-field-end.ensures.count) in
    let mid : ℕ = c.count-points.result * c.sample_bytes-size.result in
    let same : mid ≡ length (points region) * sample_bytes_of h field = λ i. c.count-points.ensures.count i * c.sample_bytes-size.ensures.value i in
    record {
      made = made_more h region c.args.bytes.now c.requires.bytes c.args.spans.now field mid c.sample_bytes-size.result c.mask-mask.result c.loop-field.rest.now c.split_at.result.0.now
          c.loop-field.runs.items c.push_runs.new.runs.items c.mask-mask.ensures.value c.sample_bytes-size.ensures.value same
          c.loop-field.invariant.left c.split_at.ensures.front c.loop-field.invariant.made c.in_ok-push_runs.ensures;
      left = c.split_at.ensures.back ∙ left_more h region c.args.bytes.now c.requires.bytes field mid c.loop-field.rest.now exists same c.loop-field.invariant.left;
    }
