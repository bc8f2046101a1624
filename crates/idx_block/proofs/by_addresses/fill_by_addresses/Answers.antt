use Rattle.std.proofs.Common.{◌≡◌, ℕ, ◌+◌, ◌-◌, ◌*◌, ◌^◌, ◌≤◌, List, length, take, drop, ap, ◌∙◌, arith}
use Rattle.std.specs.List.{flat_map, range_with_len}
use Rattle.std.proofs.Math.Nat.{mul-le-mul_right, mul_comm}
use Rattle.idx_block.specs.Stored.{stored}
use Rattle.idx_lanes.proofs.LevelLemmas.{address-in_block}
use Rattle.idx_lanes.proofs.CopyLemmas.{all-right, length-part, right-next}
use Rattle.idx_block.proofs.by_addresses.fill_by_addresses.Goals as goal

pub overflow_mul-address : goal.overflow_mul-address
overflow_mul-address c =
    let in_block = address-in_block
    (length c.args.mask.now) c.args.bits c.args.block c.address_count-count.result c.loop-k.k c.requires.bits c.requires.mask.few c.requires.exists c.address_count-count.ensures.value c.loop-k-test.true in
    omega (arith, in_block.0, in_block.1)

pub overflow_add-address : goal.overflow_add-address
overflow_add-address c =
    let in_block = address-in_block
    (length c.args.mask.now) c.args.bits c.args.block c.address_count-count.result c.loop-k.k c.requires.bits c.requires.mask.few c.requires.exists c.address_count-count.ensures.value c.loop-k-test.true in
    omega (arith, in_block.0, in_block.1)

pub put_sample-requires-clause-small : goal.put_sample-requires-clause-small
put_sample-requires-clause-small c =
    (address-in_block (length c.args.mask.now) c.args.bits c.args.block c.address_count-count.result c.loop-k.k c.requires.bits c.requires.mask.few c.requires.exists c.address_count-count.ensures.value c.loop-k-test.true).0

pub loop-k-preserved : goal.loop-k-preserved
loop-k-preserved c =
    let size : ℕ = c.args.size in
    let k : ℕ = c.loop-k.k in
    let count : ℕ = c.address_count-count.result in
    let raw : List ℕ = c.args.samples.now in
    let n : ℕ = k * size + size - k * size in
    let same : n ≡ size = omega arith in
    let le : k + 1 ≤ count = omega arith in
    let room : (k + 1) * size ≤ length c.loop-k.into =
    omega (arith, c.requires.room, mul_comm size (2 ^ c.args.bits), mul-le-mul_right size le, ap (λ m. m * size) c.address_count-count.ensures.value) in
    let part : length (take n (drop (k * size) c.loop-k.into)) ≡ size = length-part (k * size) n size c.loop-k.into same (omega (arith, room, one_more k size)) in
    let want : ℕ → List ℕ = λ o. stored c.args.mask.now c.args.region.now size raw (c.args.block * count + o) in
    right-next want size k n c.put_sample.new.into c.loop-k.into (c.put_sample.auto.into ∙ part) same room
    (c.put_sample.ensures ∙ ap (λ m. stored c.args.mask.now c.args.region.now m raw (c.args.block * count + k)) part) c.loop-k.invariant
  where
    one_more : (n x : ℕ) → (n + 1) * x ≡ n * x + x
    one_more n x = grind arith

pub returns : goal.returns
returns c =
    let first : c.args.block * c.address_count-count.result ≡ c.args.block * 2 ^ c.args.bits = ap (λ n. c.args.block * n) c.address_count-count.ensures.value in
    let size : ℕ = c.args.size in
    let count : ℕ = c.address_count-count.result in
    let want : ℕ → List ℕ = stored c.args.mask.now c.args.region.now size c.args.samples.now in
    let all : c.loop-k.k ≡ count = omega arith in
    let long : length c.loop-k.into ≡ count * size = omega (arith, c.requires.room, mul_comm size (2 ^ c.args.bits), ap (λ m. m * size) c.address_count-count.ensures.value) in
    all-right want size count (c.args.block * count) c.loop-k.into long (λ o within. c.loop-k.invariant o (omega (arith, within, all)))
    ∙ ap (λ n. flat_map want (range_with_len (c.args.block * n) n)) c.address_count-count.ensures.value
