use Rattle.std.proofs.Common.{◌<◌, ◌^◌, slice_index, refl, arith}
use Rattle.std.proofs.lemmas.List.Elements.{All-from_get_or}
use Rattle.idx_hz.proofs.PointLemmas.{HasHighBits-lt, HasHighBits-more}
use Rattle.idx_hz.proofs.mask.Mask.coordinates_at.Goals as goal
use Rattle.idx_hz.proofs.mask.Mask.coordinates_at.Goals.{After-binary_digit-bit}

-- the digit names one of the five axes
digit_small : (c : After-binary_digit-bit) → slice_index c.digits-digits.result.now c.loop-place.place < 5
digit_small c = c.digits-digits.ensures.valid.digits c.loop-place.place 0 (omega arith)

-- its coordinate so far leaves room for one bit more
coordinate_small : (c : After-binary_digit-bit) → slice_index c.loop-place.coordinates (slice_index c.digits-digits.result.now c.loop-place.place) < 2 ^ 40
coordinate_small c = HasHighBits-lt c.digits-digits.result.now c.args.z c.loop-place.place c.loop-place.coordinates c.digits-digits.ensures.valid.few c.loop-place.invariant (slice_index c.digits-digits.result.now c.loop-place.place) (digit_small c)

pub overflow_mul-coordinates : goal.overflow_mul-coordinates
overflow_mul-coordinates c = omega (arith, coordinate_small c)

pub overflow_add-coordinates : goal.overflow_add-coordinates
overflow_add-coordinates c = omega (arith, coordinate_small c)

pub loop-place-preserved : goal.loop-place-preserved
loop-place-preserved c =
    rw (c.binary_digit-bit.ensures.value)
    (HasHighBits-more c.digits-digits.result.now c.args.z c.loop-place.place (slice_index c.digits-digits.result.now c.loop-place.place) c.loop-place.coordinates (omega arith) refl (digit_small c) c.loop-place.invariant)

pub returns-clause-small : goal.returns-clause-small
returns-clause-small c =
    All-from_get_or (λ x. x < 2 ^ 40) c.loop-place.coordinates 0 (λ axis within.
    HasHighBits-lt c.digits-digits.result.now c.args.z c.loop-place.place c.loop-place.coordinates c.digits-digits.ensures.valid.few c.loop-place.invariant axis (omega (arith, c.loop-place.invariant.room)))
