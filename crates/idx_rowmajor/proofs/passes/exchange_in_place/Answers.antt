use Rattle.std.proofs.Common.{ℕ, ◌*◌, ◌≤◌, length, List, sym, ◌∙◌, ap, arith, take, drop}
use Rattle.idx_rowmajor.specs.Exchange.{IsPairing}
use Rattle.idx_lanes.specs.Written.{written}
use Rattle.idx_rowmajor.proofs.PassLemmas.{ArePassed-swapped, ArePassed-skipped}
use Rattle.idx_rowmajor.proofs.passes.exchange_in_place.Goals as goal
use Rattle.idx_rowmajor.proofs.passes.exchange_in_place.Goals.{then-place-other, else-place-other}

pub loop-place-preserved : goal.loop-place-preserved
loop-place-preserved g c =
    let f : ℕ → ℕ = g.P.Pairing.partner c.args.pairing.now in
    let size : ℕ = c.bytes-size.result in
    let n : ℕ = c.loop-place.place in
    let m : ℕ = c.partner-other.result in
    let cur : List ℕ = c.loop-place.block in
    let pairing : IsPairing c.args.count f = c.requires.pairing in
    let room : c.args.count * size ≤ length cur = omega (arith, ap (λ k. c.args.count * k) c.bytes-size.ensures, c.requires.room, c.loop-place.auto.block) in
    elim c.if-place-other.branch [
      | then-place-other w ↦
          ArePassed-swapped n m c.args.count size f c.args.block.now cur c.if-place-other.block c.partner-other.ensures pairing c.loop-place-test.true (omega arith) room
          (w.block-is ∙ w.swap.ensures ∙ ap (λ k. written (m * size) (take k (drop (n * size) cur)) (written (n * size) (take k (drop (m * size) cur)) cur)) (sym c.bytes-size.ensures))
          c.loop-place.invariant
      | else-place-other w ↦
          ArePassed-skipped n m c.args.count size f c.args.block.now cur c.if-place-other.block c.partner-other.ensures pairing c.loop-place-test.true (omega arith) w.block-is c.loop-place.invariant
    ]
