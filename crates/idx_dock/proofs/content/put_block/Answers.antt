use Rattle.std.proofs.Common.{◌≡◌, ℕ, ◌+◌, ◌-◌, ◌*◌, ◌≤◌, List, sym, ap, ◌∙◌, arith}
use Rattle.std.specs.List.{flat_map, range_with_len}
use Rattle.idx_outside.specs.Contents.{appended}
use Rattle.idx_outside.proofs.ContentsLemmas.{appended-appended, appended-nil}
use Rattle.idx_dock.specs.Content.{runs_in, sample_among}
use Rattle.idx_dock.proofs.NextLemmas.{ArePassed-behind}
use Rattle.idx_dock.proofs.WriteLemmas.{range_two}
use Rattle.idx_dock.proofs.ContentLemmas.{block_ends}
use Rattle.idx_dock.proofs.content.put_block.Goals as goal

pub put_some-requires-clause-end : goal.put_some-requires-clause-end
put_some-requires-clause-end g c =
    omega (arith, block_ends c.args.header.now c.args.block c.block_samples-samples.result c.requires.writable.header c.requires.exists c.block_samples-samples.ensures.few)

pub loop-from-preserved : goal.loop-from-preserved
loop-from-preserved g c =
    let h = c.args.header.now in
    let draft = g.D.Draft in
    let end : ℕ = c.args.block * c.block_samples-samples.result + c.block_samples-samples.result in
    let from : ℕ = c.loop-from.from in
    let to : ℕ = c.in_ok-from.from in
    let f : ℕ → List ℕ = sample_among h (runs_in c.args.awaited.now) c.args.field in
    let before = appended (draft.contents c.loop-from.draft) c.loop-from.buffer.items in
    let far : from ≤ to = omega (arith, c.in_ok-from.ensures.further) in
    record {
      within = c.in_ok-from.ensures.within;
      passed = ArePassed-behind h c.args.field from to c.args.awaited.now _ far c.in_ok-from.ensures.passed;
      written = ap (λ o. appended o (flat_map f (range_with_len to (end - to)))) c.in_ok-from.ensures.written
          ∙ appended-appended before (flat_map f (range_with_len from (to - from))) (flat_map f (range_with_len to (end - to)))
          ∙ ap (appended before) (range_two f from to end far c.in_ok-from.ensures.within)
          ∙ c.loop-from.invariant.written;
      quiet = c.in_ok-from.ensures.quiet ∙ c.loop-from.invariant.quiet;
      path = c.put_some.ensures.path ∙ c.loop-from.invariant.path;
    }

pub returns-clause-written : goal.returns-clause-written
returns-clause-written g c =
    let h = c.args.header.now in
    let draft = g.D.Draft in
    let end : ℕ = c.args.block * c.block_samples-samples.result + c.block_samples-samples.result in
    let f : ℕ → List ℕ = sample_among h (runs_in c.args.awaited.now) c.args.field in
    let now = appended (draft.contents c.loop-from.draft) c.loop-from.buffer.items in
    let none : end - c.loop-from.from ≡ 0 = omega (arith, c.loop-from-test.false) in
    sym (appended-nil now) ∙ ap (λ n. appended now (flat_map f (range_with_len c.loop-from.from n))) (sym none) ∙ c.loop-from.invariant.written
