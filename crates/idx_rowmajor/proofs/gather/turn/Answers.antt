use Rattle.std.proofs.Common.{◌≡◌, ℕ, List, ◌*◌, ◌%◌, ◌^◌, sym, subst, arith}
use Rattle.std.proofs.lemmas.Nat.{one_shl}
use Rattle.idx_rowmajor.specs.Exchange.{IsPairing, IsExchanged}
use Rattle.idx_rowmajor.specs.Reverse.{turned}
use Rattle.idx_rowmajor.specs.Rows.{sample_of}
use Rattle.idx_rowmajor.proofs.GatherLemmas.{IsExchanged-first, IsExchanged-later}
use Rattle.idx_rowmajor.proofs.ReverseLemmas.{IsPairing-turned}
use Rattle.idx_rowmajor.proofs.gather.turn.Goals as goal

pub exchange-requires-clause-pairing : goal.exchange-requires-clause-pairing
exchange-requires-clause-pairing g c =
    let count : 1 * 2 ^ c.args.bits % 2 ^ 64 ≡ 2 ^ c.args.bits = one_shl c.args.bits 64 (omega (arith, c.requires.few_bits)) in
    subst (λ (bits : ℕ). IsPairing (1 * 2 ^ c.args.bits % 2 ^ 64) (turned bits)) (sym c.of_bits.ensures.bits)
    (subst (λ (end : ℕ). IsPairing end (turned c.args.bits)) (sym count) (IsPairing-turned c.args.bits))

pub returns-then-block-eq0 : goal.returns-then-block-eq0
returns-then-block-eq0 g c =
    let size : ℕ = g.S.Sample.bytes c.args.sample in
    let old : ℕ → List ℕ = sample_of size c.args.bytes.now in
    let new : ℕ → List ℕ = sample_of size c.exchange.new.block in
    let count : 1 * 2 ^ c.args.bits % 2 ^ 64 ≡ 2 ^ c.args.bits = one_shl c.args.bits 64 (omega (arith, c.requires.few_bits)) in
    let exchanged : IsExchanged (1 * 2 ^ c.args.bits % 2 ^ 64) (turned c.args.bits) old new =
    subst (λ (bits : ℕ). IsExchanged (1 * 2 ^ c.args.bits % 2 ^ 64) (turned bits) old new) c.of_bits.ensures.bits c.exchange.ensures in
    IsExchanged-first c.args.bits c.args.block old new c.if-block-eq0.true (subst (λ (end : ℕ). IsExchanged end (turned c.args.bits) old new) count exchanged)

pub returns-else-block-eq0 : goal.returns-else-block-eq0
returns-else-block-eq0 g c = IsExchanged-later c.args.bits c.args.block (sample_of (g.S.Sample.bytes c.args.sample) c.args.bytes.now) c.if-block-eq0.false
