use Rattle.std.proofs.Common.{◌≡◌, ℕ, ◌*◌, ◌%◌, ◌^◌, ◌<◌, ◌≤◌, List, sym, ap, ◌∙◌, subst, arith}
use Rattle.std.proofs.Math.Pow.{pow_mono}
use Rattle.std.proofs.lemmas.Nat.{one_shl}
use Rattle.idx_rowmajor.specs.Exchange.{IsExchanged}
use Rattle.idx_rowmajor.specs.Picks.{AddsBits}
use Rattle.idx_rowmajor.specs.Rows.{sample_of}
use Rattle.idx_rowmajor.specs.Tables.{partner_of}
use Rattle.idx_rowmajor.proofs.BitLemmas.{same_carried}
use Rattle.idx_rowmajor.proofs.PickLemmas.{AddsBits-carried}
use Rattle.idx_rowmajor.proofs.gather.gather_by_copy.Goals as goal

pub whole_as_front-copy : goal.whole_as_front-copy
whole_as_front-copy g c = (c.requires.few_bytes, omega (arith, c.requires.small))

pub pick-requires-clause-few_places : goal.pick-requires-clause-few_places
pick-requires-clause-few_places g c =
    let power : 2 ^ c.args.bits ≤ 2 ^ 20 = pow_mono c.requires.few_bits in
    omega (arith, one_shl c.args.bits 64 (omega (arith, c.requires.few_bits)))

pub pick-requires-clause-bits : goal.pick-requires-clause-bits
pick-requires-clause-bits g c =
    subst (λ (end : ℕ). AddsBits end (partner_of c.of_places-tables.result)) (sym (one_shl c.args.bits 64 (omega (arith, c.requires.few_bits))))
    (AddsBits-carried c.args.bits c.args.targets.now (partner_of c.of_places-tables.result) c.requires.places c.of_places-tables.ensures)

pub returns : goal.returns
returns g c from to small carried =
    let bits : ℕ = c.args.bits in
    let size : ℕ = g.S.Sample.bytes c.args.sample in
    let f : ℕ → ℕ = partner_of c.of_places-tables.result in
    let old : ℕ → List ℕ = sample_of size c.args.bytes.now in
    let new : ℕ → List ℕ = sample_of size c.pick.new.into in
    let count : 1 * 2 ^ bits % 2 ^ 64 ≡ 2 ^ bits = one_shl bits 64 (omega (arith, c.requires.few_bits)) in
    let picked : IsExchanged (1 * 2 ^ bits % 2 ^ 64) f (sample_of size c.copy_from_slice.new.self) new = c.pick.ensures in
    picked from (subst (λ n. from < n) (sym count) small)
    ∙ ap (λ xs. sample_of size xs (f from)) c.copy_from_slice.ensures.after
    ∙ ap old (same_carried bits c.args.targets.now from (f from) to c.requires.places (c.of_places-tables.ensures from small) carried)
