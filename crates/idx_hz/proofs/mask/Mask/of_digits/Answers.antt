use Rattle.std.proofs.Common.{◌-◌, ◌≡◌, length, get_or, refl, arith}
use Rattle.idx_hz.proofs.MaskLemmas.{stored_more, stored_front, stored_all, digits_back}
use Rattle.idx_hz.proofs.mask.Mask.of_digits.Goals as goal

pub loop-place-preserved : goal.loop-place-preserved
loop-place-preserved c = stored_more c.args.digits.now c.loop-place.stored c.loop-place.place (get_or c.args.digits.now c.loop-place.place 0 - 48) (omega arith) (omega arith) refl c.loop-place.invariant

pub invariant_of-result : goal.invariant_of-result
invariant_of-result c =
    let end : c.loop-place.place ≡ length c.args.digits.now = omega arith in
    stored_all c.args.digits.now c.loop-place.stored c.requires.some c.requires.few c.requires.digits (rw end at c.loop-place.invariant)

pub returns-clause-text : goal.returns-clause-text
returns-clause-text c =
    let end : c.loop-place.place ≡ length c.args.digits.now = omega arith in
    rw (stored_front c.args.digits.now c.loop-place.stored c.requires.few (rw end at c.loop-place.invariant)) (digits_back c.args.digits.now c.requires.digits)

pub returns-clause-valid : goal.returns-clause-valid
returns-clause-valid c =
    let end : c.loop-place.place ≡ length c.args.digits.now = omega arith in
    (stored_all c.args.digits.now c.loop-place.stored c.requires.some c.requires.few c.requires.digits (rw end at c.loop-place.invariant)).mask
