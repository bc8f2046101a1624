use Rattle.std.proofs.Common.{◌≡◌, ℕ, ◌+◌, ◌*◌, ◌≤◌, List, length, take, drop, slice_index, refl, sym, ap, ◌∙◌, arith}
use Rattle.std.proofs.Math.Nat.{mul-le-mul_right}
use Rattle.idx_lanes.specs.Written.{written}
use Rattle.idx_lanes.proofs.CopyLemmas.{length-part}
use Rattle.idx_rowmajor.specs.Rows.{sample_of}
use Rattle.idx_rowmajor.proofs.PickLemmas.{picked_more}
use Rattle.idx_rowmajor.proofs.picks.pick_eight.Goals as goal

pub loop-i-preserved : goal.loop-i-preserved
loop-i-preserved g c =
    let size : ℕ = c.bytes-size.result in
    let i : ℕ = c.loop-i.i in
    let window : List ℕ = c.args.window.now in
    let place : ℕ = slice_index c.args.places.now i in
    let next : (place + 1) * size ≡ place * size + size = grind arith in
    let read : (place + 1) * size ≤ length window = omega (arith, ap (λ k. (place + 1) * k) c.bytes-size.ensures, c.requires.read i c.loop-i-test.true) in
    let write : (i + 1) * size ≤ length c.loop-i.into =
    omega (arith, mul-le-mul_right size (let h : i + 1 ≤ 8 = omega (arith, c.loop-i-test.true) in h), c.bytes-size.ensures, c.requires.write, c.loop-i.auto.into) in
    picked_more (λ o. sample_of size window (slice_index c.args.places.now o)) size i (sample_of size window place) c.loop-i.into c.copy.new.out
    (length-part (place * size) size size window refl (omega arith)) write refl
    (c.copy.ensures ∙ ap (λ k. written (i * size) (take k (drop (place * size) window)) c.loop-i.into) (sym c.bytes-size.ensures))
    c.loop-i.invariant
