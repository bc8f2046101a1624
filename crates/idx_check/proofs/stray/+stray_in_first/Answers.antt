use Rattle.std.proofs.Common.{◌≡◌, ℕ, ◌+◌, ◌-◌, ◌*◌, ◌^◌, ◌≤◌, List, length, refl, ap, ◌∙◌, arith}
use Rattle.idx_check.proofs.NatLemmas.{halved_of, one_exists}
use Rattle.idx_check.proofs.StrayLemmas.{in_high, in_none}
use Rattle.idx_check.proofs.stray.+stray_in_first.Goals as goal

pub overflow_mul-half : goal.overflow_mul-half
overflow_mul-half t c =
    let some : 1 ≤ c.args.bits = omega (arith, c.if-bits-eq0.false) in
    let halved = halved_of c.args.size c.args.bits 0 c.address_count.result some c.address_count.ensures.value in
    omega (arith, c.requires.room, halved.whole)

pub split_at-requires : goal.split_at-requires
split_at-requires t c =
    let some : 1 ≤ c.args.bits = omega (arith, c.if-bits-eq0.false) in
    let halved = halved_of c.args.size c.args.bits 0 c.address_count.result some c.address_count.ensures.value in
    omega (arith, c.requires.room, halved.whole)

pub stray_in_level-requires-clause-exists : goal.stray_in_level-requires-clause-exists
stray_in_level-requires-clause-exists t c =
    let some : 1 ≤ c.args.bits = omega (arith, c.if-bits-eq0.false) in
    one_exists (length c.args.mask.now) c.args.bits some c.requires.bits

pub stray_in_level-requires-clause-room : goal.stray_in_level-requires-clause-room
stray_in_level-requires-clause-room t c =
    let some : 1 ≤ c.args.bits = omega (arith, c.if-bits-eq0.false) in
    let halved = halved_of c.args.size c.args.bits 0 c.address_count.result some c.address_count.ensures.value in
    let long : length c.split_at.result.1.now ≡ c.args.size * c.address_count.result = omega (arith, c.split_at.ensures.back_len, c.requires.room, halved.whole) in
    long ∙ ap (λ n. c.args.size * n) c.address_count.ensures.value

pub returns-in-Some-stray_in_level : goal.returns-in-Some-stray_in_level
returns-in-Some-stray_in_level t c =
    let mask = c.args.mask.now in
    let box = c.args.region.now in
    let size : ℕ = c.args.size in
    let count : ℕ = c.address_count.result in
    let low : List ℕ = c.split_at.result.0.now in
    let high : List ℕ = c.split_at.result.1.now in
    let some : 1 ≤ c.args.bits = omega (arith, c.if-bits-eq0.false) in
    let halved = halved_of size c.args.bits 0 count some c.address_count.ensures.value in
    let next : 1 * 2 ^ (c.args.bits - 1) ≡ 0 + count = omega (arith, c.address_count.ensures.value) in
    in_high mask box size 0 (1 * 2 ^ (c.args.bits - 1)) count (size * count) c.args.bytes.now low high c.requires.some refl (c.requires.room ∙ halved.whole) c.split_at.ensures.front c.split_at.ensures.back next
    c.in-Some-stray_in_level.place c.in_default.ensures c.in-Some-stray_in_level.ensures

pub returns-in-None : goal.returns-in-None
returns-in-None t c =
    let mask = c.args.mask.now in
    let box = c.args.region.now in
    let size : ℕ = c.args.size in
    let count : ℕ = c.address_count.result in
    let low : List ℕ = c.split_at.result.0.now in
    let high : List ℕ = c.split_at.result.1.now in
    let some : 1 ≤ c.args.bits = omega (arith, c.if-bits-eq0.false) in
    let halved = halved_of size c.args.bits 0 count some c.address_count.ensures.value in
    let next : 1 * 2 ^ (c.args.bits - 1) ≡ 0 + count = omega (arith, c.address_count.ensures.value) in
    in_none mask box size 0 (1 * 2 ^ (c.args.bits - 1)) count (size * count) c.args.bytes.now low high c.requires.some refl (c.requires.room ∙ halved.whole) c.split_at.ensures.front c.split_at.ensures.back next
    c.in_default.ensures c.in-None.ensures
