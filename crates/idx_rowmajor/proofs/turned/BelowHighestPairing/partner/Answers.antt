use Rattle.std.proofs.Common.{◌≡◌, ℕ, ◌+◌, ◌-◌, ◌*◌, ◌/◌, ◌%◌, ◌^◌, ◌<◌, ◌≤◌, sym, ap, ◌∙◌, arith}
use Rattle.std.proofs.Math.Pow.{pow_mono}
use Rattle.std.proofs.lemmas.Nat.{one_shl}
use Rattle.idx_rowmajor.specs.Reverse.{turned}
use Rattle.idx_rowmajor.proofs.MirrorLemmas.{turned-mirrored}
use Rattle.idx_rowmajor.proofs.ReverseLemmas.{turned-zero}
use Rattle.idx_rowmajor.proofs.TurnedLemmas.{highest-lt}
use Rattle.idx_rowmajor.proofs.turned.BelowHighestPairing.partner.Goals as goal

pub returns-then-place-eq0 : goal.returns-then-place-eq0
returns-then-place-eq0 c = sym (ap (turned c.args.self.now.bits) c.if-place-eq0.true ∙ turned-zero c.args.self.now.bits 1)

pub partner-requires : goal.partner-requires
partner-requires c =
    let power : 2 ^ c.args.self.now.bits ≤ 2 ^ 20 = pow_mono c.requires.0 in
    omega (arith, c.requires.1)

pub overflow_sub-behind-2 : goal.overflow_sub-behind-2
overflow_sub-behind-2 c =
    let inside : c.ilog2-highest.result < c.args.self.now.bits = highest-lt c.ilog2-highest.result c.args.self.now.bits c.args.place c.ilog2-highest.ensures.power_le c.requires.1 in
    omega arith

pub returns : goal.returns
returns c =
    let bits : ℕ = c.args.self.now.bits in
    let k : ℕ = c.ilog2-highest.result in
    let inside : k < bits = highest-lt k bits c.args.place c.ilog2-highest.ensures.power_le c.requires.1 in
    let unit : 1 * 2 ^ k % 2 ^ 64 ≡ 2 ^ k = one_shl k 64 c.ilog2-highest.ensures.bound in
    ap (λ n. n + c.partner.result / 2 ^ (bits - 1 - k) / 2) unit
    ∙ turned-mirrored bits c.args.place k c.partner.result c.requires.1 inside c.ilog2-highest.ensures.power_le c.ilog2-highest.ensures.next_power_gt (c.partner.ensures ∙ c.requires.2)
