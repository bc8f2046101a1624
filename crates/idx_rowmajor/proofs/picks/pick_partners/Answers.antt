use Rattle.std.proofs.Common.{◌≡◌, ℕ, ◌+◌, ◌*◌, ◌<◌, ◌≤◌, List, length, take, drop, refl, sym, ap, ◌∙◌, arith}
use Rattle.std.proofs.Math.Nat.{mul-le-mul_right}
use Rattle.idx_lanes.specs.Written.{written}
use Rattle.idx_lanes.proofs.CopyLemmas.{length-part}
use Rattle.idx_rowmajor.specs.Rows.{sample_of}
use Rattle.idx_rowmajor.proofs.PickLemmas.{picked_more}
use Rattle.idx_rowmajor.proofs.picks.pick_partners.Goals as goal

pub loop-place-preserved : goal.loop-place-preserved
loop-place-preserved g c =
    let size : ℕ = c.bytes-size.result in
    let place : ℕ = c.loop-place.place in
    let other : ℕ = c.partner-other.result in
    let from : List ℕ = c.args.from.now in
    let f : ℕ → ℕ = g.P.Pairing.partner c.args.pairing.now in
    let next : (other + 1) * size ≡ other * size + size = grind arith in
    let below : f place < c.args.count = (c.requires.pairing place c.loop-place-test.true).0 in
    let there : other + 1 ≤ c.args.count = omega (arith, below, c.partner-other.ensures) in
    let read : (other + 1) * size ≤ length from = omega (arith, mul-le-mul_right size there, ap (λ k. c.args.count * k) c.bytes-size.ensures, c.requires.read) in
    let write : (place + 1) * size ≤ length c.loop-place.into =
    omega (arith, mul-le-mul_right size (let h : place + 1 ≤ c.args.count = omega (arith, c.loop-place-test.true) in h), ap (λ k. c.args.count * k) c.bytes-size.ensures, c.requires.write, c.loop-place.auto.into) in
    picked_more (λ o. sample_of size from (f o)) size place (sample_of size from other) c.loop-place.into c.copy.new.out
    (length-part (other * size) size size from refl (omega arith)) write (ap (sample_of size from) c.partner-other.ensures)
    (c.copy.ensures ∙ ap (λ k. written (place * size) (take k (drop (other * size) from)) c.loop-place.into) (sym c.bytes-size.ensures))
    c.loop-place.invariant
