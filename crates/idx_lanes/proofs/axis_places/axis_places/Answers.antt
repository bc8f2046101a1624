use Rattle.std.proofs.Common.{◌≡◌, ℕ, ◌+◌, ◌-◌, ◌*◌, ◌<◌, ◌≤◌, ◌^◌, List, length, get_or, sym, ap, ◌∙◌, arith, eqb}
use Rattle.idx_lanes.specs.Lanes.{block_digits}
use Rattle.idx_lanes.proofs.PlaceLemmas.{block_digit, places-all, places-more, places-none, places-small}
use Rattle.idx_lanes.proofs.ZByLemmas.{length-block_digits}
use Rattle.idx_lanes.proofs.axis_places.axis_places.Goals as goal
use Rattle.idx_lanes.proofs.axis_places.axis_places.Goals.{In-loop-j}

small : (c : In-loop-j) → (c.loop-j.unit ≤ 2 ^ 20) × (c.loop-j.places.bits < c.loop-j.unit) × (c.loop-j.places.first < c.loop-j.unit)
small c =
    let digits : List ℕ = block_digits c.args.mask.now c.args.k c.args.bits in
    let size : length digits ≡ c.args.bits = length-block_digits c.args.mask.now c.args.k c.args.bits c.requires.digits in
    places-small digits c.args.axis c.args.x c.loop-j.j c.loop-j.unit c.loop-j.places.bits c.loop-j.places.first c.loop-j.places.rest (omega (arith, size, c.requires.few))
    (omega (arith, size, c.loop-j-test.true)) c.loop-j.invariant

pub loop-j-init : goal.loop-j-init
loop-j-init c = places-none (block_digits c.args.mask.now c.args.k c.args.bits) c.args.axis c.args.x

pub with_digit-places-requires-clause-unit : goal.with_digit-places-requires-clause-unit
with_digit-places-requires-clause-unit c = (small (goal.at.with_digit-places-requires-clause-unit c).In-loop-j).0

pub with_digit-places-requires-clause-bits : goal.with_digit-places-requires-clause-bits
with_digit-places-requires-clause-bits c = (small (goal.at.with_digit-places-requires-clause-bits c).In-loop-j).1

pub with_digit-places-requires-clause-first : goal.with_digit-places-requires-clause-first
with_digit-places-requires-clause-first c = (small (goal.at.with_digit-places-requires-clause-first c).In-loop-j).2

pub loop-j-preserved : goal.loop-j-preserved
loop-j-preserved c =
    let mask : List ℕ = c.args.mask.now in
    let digits : List ℕ = block_digits mask c.args.k c.args.bits in
    let j : ℕ = c.loop-j.j in
    let size : length digits ≡ c.args.bits = length-block_digits mask c.args.k c.args.bits c.requires.digits in
    let at : length digits - (j + 1) < c.args.bits = omega (arith, size, c.loop-j-test.true) in
    let place : c.args.k + c.args.bits - j - 1 ≡ c.args.k + (length digits - (j + 1)) = omega (arith, size, c.loop-j-test.true) in
    let digit : c.axis.result ≡ get_or digits (length digits - (j + 1)) 0 =
    c.axis.ensures.value ∙ ap (λ n. get_or mask n 0) place ∙ sym (block_digit mask c.args.k c.args.bits (length digits - (j + 1)) at) in
    places-more digits c.args.axis c.args.x j c.loop-j.unit c.loop-j.places.bits c.loop-j.places.first c.loop-j.places.rest (eqb c.axis.result c.args.axis)
    c.with_digit-places.result.bits c.with_digit-places.result.first c.with_digit-places.result.rest (c.loop-j.unit * 2)
    (omega (arith, size, c.loop-j-test.true)) (ap (λ d. eqb d c.args.axis) digit)
    c.with_digit-places.ensures.bits c.with_digit-places.ensures.first c.with_digit-places.ensures.rest (omega arith) c.loop-j.invariant

pub returns-clause-bits : goal.returns-clause-bits
returns-clause-bits c =
    let digits : List ℕ = block_digits c.args.mask.now c.args.k c.args.bits in
    let size : length digits ≡ c.args.bits = length-block_digits c.args.mask.now c.args.k c.args.bits c.requires.digits in
    (places-all digits c.args.axis c.args.x c.loop-j.j c.loop-j.unit c.loop-j.places.bits c.loop-j.places.first c.loop-j.places.rest (omega (arith, size, c.loop-j-test.false)) c.loop-j.invariant).0

pub returns-clause-first : goal.returns-clause-first
returns-clause-first c =
    let digits : List ℕ = block_digits c.args.mask.now c.args.k c.args.bits in
    let size : length digits ≡ c.args.bits = length-block_digits c.args.mask.now c.args.k c.args.bits c.requires.digits in
    (places-all digits c.args.axis c.args.x c.loop-j.j c.loop-j.unit c.loop-j.places.bits c.loop-j.places.first c.loop-j.places.rest (omega (arith, size, c.loop-j-test.false)) c.loop-j.invariant).1
