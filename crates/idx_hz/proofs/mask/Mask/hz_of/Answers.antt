use Rattle.std.proofs.Common.{◌+◌, ◌*◌, ◌^◌, ◌%◌, ◌≡◌, length, ap, ◌∙◌, arith}
use Rattle.std.proofs.lemmas.Nat.{one_shl}
use Rattle.idx_hz.specs.Address.{hz_at}
use Rattle.idx_hz.proofs.ShiftLemmas.{IsMarked, IsMarked-add}
use Rattle.idx_hz.proofs.mask.Mask.hz_of.Goals as goal
use Rattle.idx_hz.proofs.mask.Mask.hz_of.Goals.{After-len}

-- the 1 before the digits is set
is_marked : (c : After-len) → IsMarked (length c.args.self.now) 64 c.z_of.result (c.z_of.result + (1 * 2 ^ c.len.result) % 2 ^ 64)
is_marked c =
    let front : (1 * 2 ^ c.len.result) % 2 ^ 64 ≡ 2 ^ c.len.result = one_shl c.len.result 64 (omega (arith, c.len.ensures.count, c.len.ensures.valid.few)) in
    rw (front, c.len.ensures.count) (IsMarked-add (length c.args.self.now) 64 c.z_of.result c.z_of.ensures.small (omega (arith, c.len.ensures.valid.few)))

pub overflow_shr-result : goal.overflow_shr-result
overflow_shr-result c = omega (arith, (is_marked c).few, c.len.ensures.valid.few)

pub returns-clause-value : goal.returns-clause-value
returns-clause-value c = (is_marked c).shifted ∙ ap (hz_at (length c.args.self.now)) c.z_of.ensures.value
