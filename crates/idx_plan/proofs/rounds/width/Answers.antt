use Rattle.std.proofs.Common.{◌≡◌, ◌*◌, ◌/◌, ◌%◌, ◌^◌, ◌≤◌, ℕ, ap, ◌∙◌, arith}
use Rattle.std.specs.Prelude.{max}
use Rattle.std.proofs.Math.Nat.{max_comm, mod-eq_of_lt, mul-le-mul}
use Rattle.std.proofs.Math.Pow.{pow_mono}
use Rattle.idx_plan.proofs.rounds.width.Goals as goal

pub returns-clause-value : goal.returns-clause-value
returns-clause-value c =
    let size : ℕ = c.sample_bytes.result in
    let bits : ℕ = c.bits_per_block.result in
    let few : size * 2 ^ bits ≤ 64 * 2 ^ 20 = mul-le-mul c.sample_bytes.ensures.few (pow_mono c.bits_per_block.ensures.few) in
    let whole : size * 2 ^ bits % 18446744073709551616 ≡ size * 2 ^ bits = mod-eq_of_lt (omega (arith, few)) in
    c.max.ensures ∙ ap (λ n. max (67108864 / n) 1) whole
    ∙ (λ i. max (67108864 / (c.sample_bytes.ensures.value i * 2 ^ c.bits_per_block.ensures.value i)) 1) ∙ max_comm _ 1
