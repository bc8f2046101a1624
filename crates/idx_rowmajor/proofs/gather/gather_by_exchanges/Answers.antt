use Rattle.std.proofs.Common.{◌≡◌, ℕ, List, ◌*◌, ◌%◌, ◌^◌, ◌<◌, ◌≤◌, sym, subst, arith}
use Rattle.std.proofs.Math.Pow.{pow_mono}
use Rattle.std.proofs.lemmas.Nat.{one_shl}
use Rattle.idx_rowmajor.specs.Exchange.{IsPairing, IsExchanged}
use Rattle.idx_rowmajor.specs.Rows.{sample_of}
use Rattle.idx_rowmajor.specs.Tables.{partner_of}
use Rattle.idx_rowmajor.proofs.GatherLemmas.{ArePlaces-involution, IsPairing-carried, AreGathered-twice}
use Rattle.idx_rowmajor.proofs.gather.gather_by_exchanges.Goals as goal

count_of : (bits : ℕ) → bits ≤ 20 → 1 * 2 ^ bits % 2 ^ 64 ≡ 2 ^ bits
count_of bits few = one_shl bits 64 (omega arith)

small_of : (bits o : ℕ) → bits ≤ 20 → o < 1 * 2 ^ bits % 2 ^ 64 → o < 2 ^ 20
small_of bits o few below =
    let power : 2 ^ bits ≤ 2 ^ 20 = pow_mono few in
    omega (arith, count_of bits few)

pub of_places-second-requires-clause-places : goal.of_places-second-requires-clause-places
of_places-second-requires-clause-places g c = ArePlaces-involution c.args.bits c.split-halves.result.second c.split-halves.ensures.second

pub exchange-requires-clause-ready : goal.exchange-requires-clause-ready
exchange-requires-clause-ready g c o below = small_of c.args.bits o c.requires.few_bits below

pub exchange-requires-clause-pairing : goal.exchange-requires-clause-pairing
exchange-requires-clause-pairing g c =
    subst (λ (end : ℕ). IsPairing end (partner_of c.of_places-second.result)) (sym (count_of c.args.bits c.requires.few_bits))
    (IsPairing-carried c.args.bits c.split-halves.result.second (partner_of c.of_places-second.result) c.split-halves.ensures.second c.of_places-second.ensures)

pub of_places-first-requires-clause-places : goal.of_places-first-requires-clause-places
of_places-first-requires-clause-places g c = ArePlaces-involution c.args.bits c.split-halves.result.first c.split-halves.ensures.first

pub exchange-requires-2-clause-ready : goal.exchange-requires-2-clause-ready
exchange-requires-2-clause-ready g c o below = small_of c.args.bits o c.requires.few_bits below

pub exchange-requires-2-clause-pairing : goal.exchange-requires-2-clause-pairing
exchange-requires-2-clause-pairing g c =
    subst (λ (end : ℕ). IsPairing end (partner_of c.of_places-first.result)) (sym (count_of c.args.bits c.requires.few_bits))
    (IsPairing-carried c.args.bits c.split-halves.result.first (partner_of c.of_places-first.result) c.split-halves.ensures.first c.of_places-first.ensures)

pub returns : goal.returns
returns g c =
    let size : ℕ = g.S.Sample.bytes c.args.sample in
    let f : ℕ → ℕ = partner_of c.of_places-second.result in
    let h : ℕ → ℕ = partner_of c.of_places-first.result in
    let old : ℕ → List ℕ = sample_of size c.args.bytes.now in
    let mid : ℕ → List ℕ = sample_of size c.exchange.new.block in
    let new : ℕ → List ℕ = sample_of size c.exchange-2.new.block in
    let one : IsExchanged (2 ^ c.args.bits) f old mid = subst (λ (end : ℕ). IsExchanged end f old mid) (count_of c.args.bits c.requires.few_bits) c.exchange.ensures in
    let two : IsExchanged (2 ^ c.args.bits) h mid new = subst (λ (end : ℕ). IsExchanged end h mid new) (count_of c.args.bits c.requires.few_bits) c.exchange-2.ensures in
    AreGathered-twice c.args.bits c.args.targets.now c.split-halves.result.first c.split-halves.result.second f h old mid new c.requires.places c.split-halves.ensures
    c.of_places-second.ensures c.of_places-first.ensures one two
