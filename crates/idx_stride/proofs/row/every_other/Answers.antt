use Rattle.std.proofs.Common.{◌≡◌, ℕ, ◌+◌, ◌-◌, ◌*◌, ◌/◌, ◌%◌, ◌<◌, List, [], ◌∷◌, length, true, refl, sym, ap, ◌∙◌, arith}
use Rattle.idx_stride.specs.declared.axis.Axis.{Axis}
use Rattle.idx_stride.specs.Places.{samples_at, progression}
use Rattle.idx_stride.specs.Written.{gathered}
use Rattle.idx_stride.proofs.RowLemmas.{gathered-every_other, every_other-read}
use Rattle.idx_stride.proofs.SamplesLemmas.{length-samples_at-read}
use Rattle.idx_stride.proofs.WrittenLemmas.{WritesAt-same}
use Rattle.idx_stride.proofs.row.every_other.Goals as goal

-- of two coordinates, the one that is not coarse is odd from the grid on
odd : (phase before ratio : ℕ) → ratio ≡ 2 → before < ratio → (phase + before) % ratio ≡ 0 → (phase + (1 - before)) % 2 ≡ 1
odd phase before ratio two less even =
    let halves : (phase + before) % 2 ≡ 0 = ap (λ r. (phase + before) % r) (sym two) ∙ even in
    omega arith

same : (size : ℕ) (window : List ℕ) (base : ℕ) (axis : Axis) (before : ℕ) → axis.ratio ≡ 2 → 1 < axis.count → before < axis.ratio → (axis.phase + before) % axis.ratio ≡ 0 →
    gathered size window base true (axis ∷ []) ≡ samples_at size window (progression (base + (1 - before) * axis.step) (2 * axis.step) ((axis.count - (1 - before) + 1) / 2))
same size window base axis before two wide less even =
    gathered-every_other size window base axis (1 - before) ((axis.count - (1 - before) + 1) / 2) two (omega arith) (omega arith)
    (odd axis.phase before axis.ratio two less even) refl

pub run-requires-clause-read : goal.run-requires-clause-read
run-requires-clause-read g c =
    every_other-read c.args.base (g.S.Sample.bytes c.args.sample) c.args.axis.now.step c.args.axis.now.count (1 - c.before_coarse.result)
    ((c.args.axis.now.count - (1 - c.before_coarse.result) + 1) / 2) (length c.args.window.now) refl (omega arith) c.requires.wide c.requires.read

pub run-requires-clause-write : goal.run-requires-clause-write
run-requires-clause-write g c =
    let size : ℕ = g.S.Sample.bytes c.args.sample in
    let axis : Axis = c.args.axis.now in
    let first : ℕ = 1 - c.before_coarse.result in
    let n : ℕ = (axis.count - first + 1) / 2 in
    let long : length (samples_at size c.args.window.now (progression (c.args.base + first * axis.step) (2 * axis.step) n)) ≡ n * size =
    length-samples_at-read size c.args.window.now (c.args.base + first * axis.step) (2 * axis.step) n
    (every_other-read c.args.base size axis.step axis.count first n (length c.args.window.now) refl (omega arith) c.requires.wide c.requires.read) in
    omega (
      arith,
      long,
      c.requires.write,
      ap length (same size c.args.window.now c.args.base axis c.before_coarse.result c.requires.ratio c.requires.wide c.before_coarse.ensures.least c.before_coarse.ensures.coarse),
    )

pub returns : goal.returns
returns g c =
    let size : ℕ = g.S.Sample.bytes c.args.sample in
    let axis : Axis = c.args.axis.now in
    let first : ℕ = 1 - c.before_coarse.result in
    WritesAt-same c.args.at c.run.result
    (samples_at size c.args.window.now (progression (c.args.base + first * axis.step) (2 * axis.step) ((axis.count - first + 1) / 2)))
    (gathered size c.args.window.now c.args.base true (axis ∷ [])) c.args.out.now c.run.new.out
    (sym (same size c.args.window.now c.args.base axis c.before_coarse.result c.requires.ratio c.requires.wide c.before_coarse.ensures.least c.before_coarse.ensures.coarse))
    c.run.ensures
