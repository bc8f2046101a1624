use Rattle.std.proofs.Common.{◌≡◌, ℕ, suc, ◌+◌, ◌-◌, ◌*◌, ◌/◌, ◌^◌, ◌≤◌, subst, arith}
use Rattle.std.proofs.Math.Nat.{mod-eq_of_lt}
use Rattle.idx_plan.proofs.SpanLemmas.{middle_small}
use Rattle.idx_plan.proofs.span.middle.Goals as goal

pub returns : goal.returns
returns c =
    let b : ℕ = c.args.left - 1 in
    let is : suc b ≡ c.args.left = omega arith in
    let few : (c.args.first / 2 ^ c.args.left * 2 + 1) * 2 ^ b ≤ 2 ^ 42 =
    subst (λ (l : ℕ). (c.args.first / 2 ^ l * 2 + 1) * 2 ^ b ≤ 2 ^ 42) is
    (middle_small c.args.first c.args.end b c.requires.span.some c.requires.span.small (omega (arith, c.requires.span.few))) in
    mod-eq_of_lt (omega (arith, few))
