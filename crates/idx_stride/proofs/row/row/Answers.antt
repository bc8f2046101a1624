use Rattle.std.proofs.Common.{◌≡◌, ℕ, [], ◌∷◌, length, sym, ap, ◌∙◌, arith}
use Rattle.idx_stride.specs.declared.axis.Axis.{Axis}
use Rattle.idx_stride.specs.Places.{samples_at, progression}
use Rattle.idx_stride.specs.Written.{gathered}
use Rattle.idx_stride.proofs.RowLemmas.{gathered-fine_row}
use Rattle.idx_stride.proofs.SamplesLemmas.{length-samples_at-read}
use Rattle.idx_stride.proofs.WrittenLemmas.{WritesAt-same}
use Rattle.idx_stride.proofs.row.row.Goals as goal

pub run-requires-clause-write : goal.run-requires-clause-write
run-requires-clause-write g c =
    let size : ℕ = g.S.Sample.bytes c.args.sample in
    let axis : Axis = c.args.axis.now in
    let fine : gathered size c.args.window.now c.args.base c.args.coarse (axis ∷ []) ≡ samples_at size c.args.window.now (progression c.args.base axis.step axis.count) =
    ap (λ b. gathered size c.args.window.now c.args.base b (axis ∷ [])) c.if-not-coarse.true ∙ gathered-fine_row size c.args.window.now c.args.base axis in
    omega (arith, c.requires.write, ap length fine, length-samples_at-read size c.args.window.now c.args.base axis.step axis.count (λ h. c.requires.read))

pub returns-then-not-coarse : goal.returns-then-not-coarse
returns-then-not-coarse g c =
    let size : ℕ = g.S.Sample.bytes c.args.sample in
    let axis : Axis = c.args.axis.now in
    let fine : gathered size c.args.window.now c.args.base c.args.coarse (axis ∷ []) ≡ samples_at size c.args.window.now (progression c.args.base axis.step axis.count) =
    ap (λ b. gathered size c.args.window.now c.args.base b (axis ∷ [])) c.if-not-coarse.true ∙ gathered-fine_row size c.args.window.now c.args.base axis in
    WritesAt-same c.args.at c.run.result (samples_at size c.args.window.now (progression c.args.base axis.step axis.count))
    (gathered size c.args.window.now c.args.base c.args.coarse (axis ∷ [])) c.args.out.now c.run.new.out (sym fine) c.run.ensures
