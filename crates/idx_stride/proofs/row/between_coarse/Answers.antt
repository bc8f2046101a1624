use Rattle.std.proofs.Common.{◌≡◌, ℕ, ◌+◌, ◌-◌, ◌*◌, ◌%◌, ◌<◌, ◌≤◌, min, List, [], ◌∷◌, ◌++◌, length, true, refl, sym, ap, ◌∙◌, arith, length-append}
use Rattle.std.specs.List.{flat_map, range_with_len}
use Rattle.std.proofs.Math.Nat.{add-mul-mod_self_right}
use Rattle.idx_stride.specs.declared.axis.Axis.{Axis}
use Rattle.idx_stride.specs.Places.{samples_at, progression}
use Rattle.idx_stride.specs.Written.{gathered}
use Rattle.idx_stride.proofs.RangeLemmas.{length-flat_map-range_le}
use Rattle.idx_stride.proofs.RowLemmas.{piece, gathered-row, pieces-next_run, run-read}
use Rattle.idx_stride.proofs.SamplesLemmas.{length-samples_at-read}
use Rattle.idx_stride.proofs.WrittenLemmas.{WritesAt-nil, WritesAt-more, WritesAt-same}
use Rattle.idx_stride.proofs.row.between_coarse.Goals as goal

-- a run, and the samples before it, are part of the whole
run_fits : (size : ℕ) (window : List ℕ) (base : ℕ) (axis : Axis) (k left n next : ℕ) → (axis.phase + k + left) % axis.ratio ≡ 0 → left < axis.ratio → k < axis.count →
    n ≡ min left (axis.count - k) → next ≡ min (k + n + 1) axis.count → base + (axis.count - 1) * axis.step + size ≤ length window →
    length (flat_map (piece size window base true axis) (range_with_len 0 k)) + n * size ≤ length (gathered size window base true (axis ∷ []))
run_fits size window base axis k left n next at less inside run then read =
    let F : ℕ → List ℕ = piece size window base true axis in
    let more : flat_map F (range_with_len 0 next) ≡ flat_map F (range_with_len 0 k) ++ samples_at size window (progression (base + k * axis.step) axis.step n) =
    pieces-next_run size window base axis k left n next at less inside run then in
    let long : length (samples_at size window (progression (base + k * axis.step) axis.step n)) ≡ n * size =
    length-samples_at-read size window (base + k * axis.step) axis.step n (run-read base size axis.step axis.count k n (length window) read (omega arith)) in
    omega (
      arith,
      long,
      ap length more,
      length-append (flat_map F (range_with_len 0 k)) (samples_at size window (progression (base + k * axis.step) axis.step n)),
      length-flat_map-range_le F next axis.count (omega arith),
      ap length (gathered-row size window base true axis),
    )

pub run-next-requires-clause-read : goal.run-next-requires-clause-read
run-next-requires-clause-read g c =
    run-read c.args.base (g.S.Sample.bytes c.args.sample) c.args.axis.now.step c.args.axis.now.count c.loop-coordinate.coordinate c.min-count.result
    (length c.args.window.now) c.requires.read (omega arith)

pub run-next-requires-clause-write : goal.run-next-requires-clause-write
run-next-requires-clause-write g c =
    let k : ℕ = c.loop-coordinate.coordinate in
    let n : ℕ = c.min-count.result in
    omega (
      arith,
      c.requires.write,
      c.loop-coordinate.invariant.writes.next_place,
      run_fits (g.S.Sample.bytes c.args.sample) c.args.window.now c.args.base c.args.axis.now k c.loop-coordinate.fine n (min (k + n + 1) c.args.axis.now.count)
          (c.loop-coordinate.invariant.coarse c.loop-coordinate-test.true) c.loop-coordinate.invariant.few c.loop-coordinate-test.true c.min-count.ensures refl c.requires.read,
    )

pub loop-coordinate-init : goal.loop-coordinate-init
loop-coordinate-init g c = record {
  within = omega arith;
  writes = WritesAt-nil c.args.at c.args.out.now;
  coarse = λ h. ap (λ n. n % c.args.axis.now.ratio) (let same : c.args.axis.now.phase + 0 + c.before_coarse-fine.result ≡ c.args.axis.now.phase + c.before_coarse-fine.result = omega arith in
      same) ∙ c.before_coarse-fine.ensures.coarse;
  few = c.before_coarse-fine.ensures.least;
}

pub loop-coordinate-preserved : goal.loop-coordinate-preserved
loop-coordinate-preserved g c =
    let size : ℕ = g.S.Sample.bytes c.args.sample in
    let window : List ℕ = c.args.window.now in
    let axis : Axis = c.args.axis.now in
    let k : ℕ = c.loop-coordinate.coordinate in
    let left : ℕ = c.loop-coordinate.fine in
    let n : ℕ = c.min-count.result in
    let next : ℕ = c.min-coordinate.result in
    let at : (axis.phase + k + left) % axis.ratio ≡ 0 = c.loop-coordinate.invariant.coarse c.loop-coordinate-test.true in
    let F : ℕ → List ℕ = piece size window c.args.base true axis in
    let run : List ℕ = samples_at size window (progression (c.args.base + k * axis.step) axis.step n) in
    let more : flat_map F (range_with_len 0 next) ≡ flat_map F (range_with_len 0 k) ++ run =
    pieces-next_run size window c.args.base axis k left n next at c.loop-coordinate.invariant.few c.loop-coordinate-test.true c.min-count.ensures c.min-coordinate.ensures in
    let long : length run ≡ n * size =
    length-samples_at-read size window (c.args.base + k * axis.step) axis.step n (run-read c.args.base size axis.step axis.count k n (length window) c.requires.read (omega arith)) in
    let fits : length (flat_map F (range_with_len 0 k)) + n * size ≤ length (gathered size window c.args.base true (axis ∷ [])) =
    run_fits size window c.args.base axis k left n next at c.loop-coordinate.invariant.few c.loop-coordinate-test.true c.min-count.ensures c.min-coordinate.ensures c.requires.read in
    record {
      within = omega arith;
      writes =
          WritesAt-same c.args.at c.run-next.result (flat_map F (range_with_len 0 k) ++ run) (flat_map F (range_with_len 0 next)) c.args.out.now c.run-next.new.out (sym more)
          (WritesAt-more c.args.at c.loop-coordinate.next c.run-next.result
          (flat_map F (range_with_len 0 k)) run c.args.out.now c.loop-coordinate.out c.run-next.new.out c.loop-coordinate.invariant.writes c.run-next.ensures
          (omega (arith, c.run-next.ensures.next_place, c.loop-coordinate.invariant.writes.next_place, long, fits, c.requires.write)));
      coarse = λ h.
          let all : n ≡ left = omega arith in
          let same : axis.phase + next + (axis.ratio - 1) ≡ axis.phase + k + left + 1 * axis.ratio = omega arith in
          ap (λ m. m % axis.ratio) same ∙ add-mul-mod_self_right (axis.phase + k + left) 1 axis.ratio ∙ at;
      few = omega arith;
    }

pub returns : goal.returns
returns g c =
    let size : ℕ = g.S.Sample.bytes c.args.sample in
    let window : List ℕ = c.args.window.now in
    let axis : Axis = c.args.axis.now in
    let F : ℕ → List ℕ = piece size window c.args.base true axis in
    let all : c.loop-coordinate.coordinate ≡ axis.count = omega arith in
    WritesAt-same c.args.at c.loop-coordinate.next (flat_map F (range_with_len 0 c.loop-coordinate.coordinate)) (gathered size window c.args.base true (axis ∷ [])) c.args.out.now c.loop-coordinate.out
    (ap (λ m. flat_map F (range_with_len 0 m)) all ∙ sym (gathered-row size window c.args.base true axis))
    c.loop-coordinate.invariant.writes
