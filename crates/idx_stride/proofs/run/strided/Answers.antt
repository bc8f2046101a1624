use Rattle.std.proofs.Common.{◌≡◌, ℕ, ◌+◌, ◌*◌, ◌≤◌, List, length, take, drop, sym, ap, ◌∙◌, arith}
use Rattle.std.proofs.Math.Nat.{mul-le-mul_right}
use Rattle.idx_stride.specs.Places.{samples_at, progression}
use Rattle.idx_lanes.specs.Written.{written}
use Rattle.idx_stride.proofs.WrittenLemmas.{written-nil, written-written}
use Rattle.idx_stride.proofs.SamplesLemmas.{samples_at-progression-more, length-samples_at-progression, length-sample}
use Rattle.idx_stride.proofs.run.strided.Goals as goal

pub loop-k-init : goal.loop-k-init
loop-k-init g c = sym (written-nil c.args.at c.args.out.now)

pub loop-k-preserved : goal.loop-k-preserved
loop-k-preserved g c =
    let size : ℕ = g.S.Sample.bytes c.args.sample in
    let k : ℕ = c.loop-k.k in
    let window : List ℕ = c.args.window.now in
    let first : ℕ = c.args.first in
    let step : ℕ = c.args.step in
    let before : List ℕ = samples_at size window (progression first step k) in
    let piece : List ℕ = take size (drop (first + k * step) window) in
    let long : length before ≡ k * size = length-samples_at-progression size window first step k (λ j h. c.requires.read j (omega arith)) in
    let whole : length piece ≡ size = length-sample size window (first + k * step) (c.requires.read k c.loop-k-test.true) in
    let le : k + 1 ≤ c.args.count = omega arith in
    let same : k * c.bytes.result ≡ k * size = ap (λ b. k * b) c.bytes.ensures in
    c.copy.ensures
    ∙ ap (λ o. written (c.args.at + k * c.bytes.result) piece o) c.loop-k.invariant
    ∙ written-written c.args.at before piece c.args.out.now (c.args.at + k * c.bytes.result) (omega arith) (omega (arith, c.requires.write, mul-le-mul_right size le))
    ∙ ap (λ t. written c.args.at t c.args.out.now) (sym (samples_at-progression-more size window first step k))
