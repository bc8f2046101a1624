use Rattle.std.proofs.Common.{◌≡◌, ℕ, ◌+◌, ◌-◌, ◌*◌, List, ◌++◌, length, take, drop, sym, ap, ◌∙◌, arith}
use Rattle.std.proofs.lemmas.List.{drop-drop}
use Rattle.idx_stride.specs.Places.{samples_at, progression}
use Rattle.idx_stride.proofs.DenseLemmas.{samples_at-dense}
use Rattle.idx_stride.proofs.SamplesLemmas.{length-samples_at-read}
use Rattle.idx_stride.proofs.run.run.Goals as goal

pub returns-else-step-size : goal.returns-else-step-size
returns-else-step-size g c =
    let size : ℕ = g.S.Sample.bytes c.args.sample in
    let same : c.args.count * c.bytes-size.result ≡ c.args.count * size = ap (λ b. c.args.count * b) c.bytes-size.ensures in
    record {
      next_place = omega (arith, length-samples_at-read size c.args.window.now c.args.first c.args.step c.args.count c.requires.read);
      list = c.strided.ensures;
    }

pub returns-then-count-gt0 : goal.returns-then-count-gt0
returns-then-count-gt0 g c =
    let size : ℕ = g.S.Sample.bytes c.args.sample in
    let window : List ℕ = c.args.window.now in
    let n : ℕ = c.args.count * c.bytes-size.result in
    let same : n ≡ c.args.count * size = ap (λ b. c.args.count * b) c.bytes-size.ensures in
    let long : length (samples_at size window (progression c.args.first c.args.step c.args.count)) ≡ c.args.count * size =
    length-samples_at-read size window c.args.first c.args.step c.args.count c.requires.read in
    let whole : List ℕ = samples_at size window (progression c.args.first c.args.step c.args.count) in
    let step : c.args.step ≡ size = c.if-step-size.true ∙ c.bytes-size.ensures in
    let taken : c.args.first + n - c.args.first ≡ c.args.count * size = omega arith in
    let piece : c.copy_from_slice.new.self ≡ whole =
    c.copy_from_slice.ensures.after
    ∙ ap (λ m. take m (drop c.args.first window)) taken
    ∙ sym (samples_at-dense size window c.args.first c.args.count)
    ∙ ap (λ s. samples_at size window (progression c.args.first s c.args.count)) (sym step) in
    let behind : c.args.at + (c.args.at + n - c.args.at) ≡ c.args.at + length whole = omega arith in
    record {
      next_place = omega arith;
      list =
          (λ i. take c.args.at c.args.out.now ++ (piece i ++ drop-drop (c.args.at + n - c.args.at) c.args.at c.args.out.now i))
          ∙ ap (λ m. take c.args.at c.args.out.now ++ (whole ++ drop m c.args.out.now)) behind;
    }
