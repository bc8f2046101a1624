use Rattle.std.proofs.Common.{◌≡◌, ℕ, ◌+◌, ◌-◌, ◌*◌, ◌≤◌, ◌++◌, List, ap, ◌∙◌, arith, append_assoc}
use Rattle.std.specs.List.{flat_map, range_with_len}
use Rattle.idx_header.specs.Header.{sample_bytes_of}
use Rattle.idx_dock.specs.Content.{runs_in, sample_among}
use Rattle.idx_dock.proofs.NextLemmas.{ArePassed-behind}
use Rattle.idx_dock.proofs.WriteLemmas.{range_two}
use Rattle.idx_dock.proofs.ContentLemmas.{block_ends}
use Rattle.idx_dock.proofs.filled.fill_block.Goals as goal

pub fill_some-from-requires-clause-end : goal.fill_some-from-requires-clause-end
fill_some-from-requires-clause-end c =
    omega (arith, block_ends c.args.header.now c.args.block c.block_samples-samples.result c.requires.writable.header c.requires.exists c.block_samples-samples.ensures.few)

pub loop-from-preserved : goal.loop-from-preserved
loop-from-preserved c =
    let h = c.args.header.now in
    let size : ℕ = sample_bytes_of h c.args.field in
    let end : ℕ = c.args.block * c.block_samples-samples.result + c.block_samples-samples.result in
    let from : ℕ = c.loop-from.from in
    let to : ℕ = c.fill_some-from.result in
    let f : ℕ → List ℕ = sample_among h (runs_in c.args.awaited.now) c.args.field in
    let before : List ℕ = c.loop-from.bytes.items in
    let far : from ≤ to = omega (arith, c.fill_some-from.ensures.further) in
    let within : to ≤ end = c.fill_some-from.ensures.within in
    let parts : end - from ≡ (to - from) + (end - to) = omega (arith, far, within) in
    let product : size * (end - from) ≡ size * (to - from) + size * (end - to) = ap (λ n. size * n) parts ∙ omega arith in
    record {
      within = within;
      passed = ArePassed-behind h c.args.field from to c.args.awaited.now _ far c.fill_some-from.ensures.passed;
      filled = ap (λ xs. xs ++ flat_map f (range_with_len to (end - to))) c.fill_some-from.ensures.filled
          ∙ append_assoc before (flat_map f (range_with_len from (to - from))) (flat_map f (range_with_len to (end - to)))
          ∙ ap (λ xs. before ++ xs) (range_two f from to end far within)
          ∙ c.loop-from.invariant.filled;
      len = omega (arith, product, c.fill_some-from.ensures.len, c.loop-from.invariant.len);
      room = omega (arith, c.fill_some-from.ensures.room, c.loop-from.invariant.room);
    }
