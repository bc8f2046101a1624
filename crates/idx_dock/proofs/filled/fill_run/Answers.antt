use Rattle.std.proofs.Common.{◌≡◌, ℕ, ◌+◌, ◌-◌, ◌*◌, ◌≤◌, List, length, sym, ap, ◌∙◌, arith}
use Rattle.std.specs.Prelude.{slice_range}
use Rattle.std.proofs.Math.Nat.{mul-le-mul_left}
use Rattle.idx_header.specs.Header.{HeaderValue, sample_bytes_of}
use Rattle.idx_pieces.specs.declared.run.Run.{Run}
use Rattle.idx_pieces.specs.Runs.{IsRun, run_length}
use Rattle.idx_dock.proofs.WriteLemmas.{length-cut}
use Rattle.idx_dock.proofs.filled.fill_run.Goals as goal

-- how long the slice of a run is
cut : (h : HeaderValue) (file : ℕ) (run : Run) (size from to : ℕ) (bytes : List ℕ) → IsRun h file run → size ≡ sample_bytes_of h run.field → bytes ≡ run.bytes → run.first ≤ from → from ≤ to →
    to ≤ run.first + run_length h run → length (slice_range bytes (size * (from - run.first)) (size * (to - run.first))) ≡ sample_bytes_of h run.field * (to - from)
cut h file run size from to bytes is sized same begun le end =
    length-cut size run.first (run_length h run) from to bytes (ap length same ∙ is.whole ∙ ap (λ n. n * run_length h run) (sym sized)) begun le end
    ∙ ap (λ n. n * (to - from)) sized

pub gather-requires : goal.gather-requires
gather-requires c =
    let size : ℕ = sample_bytes_of c.args.header.now c.args.run.now.field in
    let to : ℕ = c.min-to.result in
    let far : c.args.from ≤ to = omega (arith, c.min-to.ensures, c.end_of.ensures.value) in
    let near : to ≤ c.args.run.now.first + run_length c.args.header.now c.args.run.now = omega (arith, c.min-to.ensures, c.end_of.ensures.value) in
    let less : to - c.args.from ≤ c.args.end - c.args.from = omega (arith, c.min-to.ensures) in
    let most : size * (to - c.args.from) ≤ size * (c.args.end - c.args.from) = mul-le-mul_left size less in
    omega (
      arith,
      most,
      c.requires.room,
      cut c.args.header.now c.args.file c.args.run.now c.sample_bytes-size.result c.args.from to c.as_slice.result.now c.requires.run c.sample_bytes-size.ensures.value
          c.as_slice.ensures c.requires.begun far near,
    )

pub returns-clause-len : goal.returns-clause-len
returns-clause-len c =
    let to : ℕ = c.min-to.result in
    let far : c.args.from ≤ to = omega (arith, c.min-to.ensures, c.end_of.ensures.value) in
    let near : to ≤ c.args.run.now.first + run_length c.args.header.now c.args.run.now = omega (arith, c.min-to.ensures, c.end_of.ensures.value) in
    omega (
      arith,
      c.gather.ensures.len,
      cut c.args.header.now c.args.file c.args.run.now c.sample_bytes-size.result c.args.from to c.as_slice.result.now c.requires.run c.sample_bytes-size.ensures.value
          c.as_slice.ensures c.requires.begun far near,
    )
