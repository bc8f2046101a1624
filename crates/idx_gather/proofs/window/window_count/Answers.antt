use Rattle.std.proofs.Common.{◌≡◌, ℕ, suc, ◌+◌, true, false, List, length, arith, sym, subst, ◌∙◌}
use Rattle.std.specs.Prelude.{slice_index_or}
use Rattle.idx_layout.specs.Files.{length_of_file}
use Rattle.idx_layout.specs.OfHeader.{placing_of}
use Rattle.idx_gather.specs.Windows.{joins}
use Rattle.idx_gather.proofs.RunLemmas.{IsRunSoFar, run_ends, run_more, run_stops}
use Rattle.idx_gather.proofs.window.window_count.Goals as goal

pub loop-count-preserved : goal.loop-count-preserved
loop-count-preserved c =
    let size : ℕ → ℕ = length_of_file (placing_of c.args.header.now) in
    let xs : List ℕ = c.args.files.now in
    let d : ℕ = 0 in
    let count = c.loop-count.count in
    let used = c.loop-count.used in
    let room = c.args.room in
    let is : c.file_len-more.result ≡ size (slice_index_or xs c.loop-count.count d) = c.file_len-more.ensures in
    let yes = subst (λ (m : ℕ). joins count used m room ≡ true) is (sym c.joins.ensures ∙ c.if-not-joins.false) in
    let more : suc count ≡ count + 1 = omega arith in
    subst (λ (m : ℕ). IsRunSoFar size room xs (count + 1) (used + m)) (sym is)
    (subst (λ (n : ℕ). IsRunSoFar size room xs n (used + size (slice_index_or xs count d))) more
    (run_more size room xs count used d c.loop-count-test.true c.loop-count.invariant yes))

pub returns-then-not-joins-clause-count : goal.returns-then-not-joins-clause-count
returns-then-not-joins-clause-count c =
    let size : ℕ → ℕ = length_of_file (placing_of c.args.header.now) in
    let xs : List ℕ = c.args.files.now in
    let d : ℕ = 0 in
    let count = c.loop-count.count in
    let used = c.loop-count.used in
    let room = c.args.room in
    let is : c.file_len-more.result ≡ size (slice_index_or xs c.loop-count.count d) = c.file_len-more.ensures in
    let no = subst (λ (m : ℕ). joins count used m room ≡ false) is (sym c.joins.ensures ∙ c.if-not-joins.true) in
    sym (run_stops size room xs count used d c.loop-count-test.true c.loop-count.invariant no)

pub returns-clause-count : goal.returns-clause-count
returns-clause-count c =
    let size : ℕ → ℕ = length_of_file (placing_of c.args.header.now) in
    let xs : List ℕ = c.args.files.now in
    let count = c.loop-count.count in
    let all : count ≡ length xs = omega (arith, c.loop-count-test.false, c.loop-count.auto.count-end) in
    sym (run_ends size c.args.room xs count c.loop-count.used (omega (arith, all)) (omega (arith, all)) c.loop-count.invariant ∙ all)
