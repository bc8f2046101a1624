use Rattle.std.proofs.Common.{◌≡◌, ℕ, ◌+◌, ◌-◌, ◌*◌, ◌^◌, ◌<◌, ◌≤◌, List, refl, sym, ap, ◌∙◌, arith}
use Rattle.std.specs.List.{flat_map, range_with_len}
use Rattle.std.proofs.Math.Nat.{mul-le-mul_right}
use Rattle.idx_outside.specs.Contents.{appended}
use Rattle.idx_outside.proofs.ContentsLemmas.{appended-appended, appended-nil}
use Rattle.idx_dock.specs.Content.{runs_in, sample_among}
use Rattle.idx_dock.proofs.NextLemmas.{ArePassed-behind}
use Rattle.idx_dock.proofs.ContentLemmas.{block_ends, range_step}
use Rattle.idx_dock.proofs.PlaceLemmas.{address_at, sample_by_place, stored_by_place}
use Rattle.idx_dock.proofs.rows.put_by_place.Goals as goal

pub loop-place-init : goal.loop-place-init
loop-place-init g c =
    let h = c.args.header.now in
    let draft = g.D.Draft in
    let m : ℕ = 2 ^ h.block_bits in
    let before = appended (draft.contents c.args.draft.now) c.args.buffer.now.items in
    let later : c.args.block ≤ c.args.block + 1 = omega arith in
    let all : c.block_samples-samples.result - 0 ≡ m = omega (arith, c.block_samples-samples.ensures.value) in
    record {
      passed = ArePassed-behind h c.args.field (c.args.block * m) ((c.args.block + 1) * m) c.args.awaited.now c.args.passed.now (mul-le-mul_right m later) c.requires.passed;
      written = ap (appended before)
          (ap (λ n. flat_map (sample_by_place h (runs_in c.args.awaited.now) c.args.field c.args.block) (range_with_len 0 n)) all
          ∙ sym (stored_by_place h c.args.file c.args.awaited.now c.requires.writable c.args.field c.args.block));
      quiet = refl;
      path = refl;
    }

pub put_sample-requires-clause-few : goal.put_sample-requires-clause-few
put_sample-requires-clause-few g c =
    omega (
      arith,
      c.offset_at.ensures.small,
      c.block_samples-samples.ensures.value,
      block_ends c.args.header.now c.args.block c.block_samples-samples.result c.requires.writable.header c.requires.exists c.block_samples-samples.ensures.few,
    )

pub loop-place-preserved : goal.loop-place-preserved
loop-place-preserved g c =
    let h = c.args.header.now in
    let draft = g.D.Draft in
    let m : ℕ = 2 ^ h.block_bits in
    let place : ℕ = c.loop-place.place in
    let samples : ℕ = c.block_samples-samples.result in
    let address : ℕ = c.args.block * samples + c.offset_at.result in
    let sample : ℕ → List ℕ = sample_by_place h (runs_in c.args.awaited.now) c.args.field c.args.block in
    let before = appended (draft.contents c.loop-place.draft) c.loop-place.buffer.items in
    let rest : List ℕ = flat_map sample (range_with_len (place + 1) (samples - (place + 1))) in
    let at : address ≡ address_at h c.args.block place =
    ap (λ n. c.args.block * n + c.offset_at.result) c.block_samples-samples.ensures.value ∙ ap (λ n. c.args.block * m + n) c.offset_at.ensures.value in
    let product : c.args.block * samples ≡ c.args.block * m = ap (λ n. c.args.block * n) c.block_samples-samples.ensures.value in
    let end : (c.args.block + 1) * m ≡ c.args.block * m + m = grind arith in
    let behind : address ≤ (c.args.block + 1) * m = omega (arith, product, end, c.offset_at.ensures.small) in
    let less : place < samples = omega (arith, c.loop-place-test.true) in
    record {
      passed = ArePassed-behind h c.args.field address ((c.args.block + 1) * m) c.args.awaited.now c.put_sample.new.passed behind c.put_sample.ensures.passed;
      written = ap (λ o. appended o rest) (c.in_ok-put_sample.ensures.written ∙ ap (λ a. appended before (sample_among h (runs_in c.args.awaited.now) c.args.field a)) at)
          ∙ appended-appended before (sample place) rest
          ∙ ap (λ places. appended before (flat_map sample places)) (sym (range_step place samples less))
          ∙ c.loop-place.invariant.written;
      quiet = c.in_ok-put_sample.ensures.quiet ∙ c.loop-place.invariant.quiet;
      path = c.put_sample.ensures.path ∙ c.loop-place.invariant.path;
    }

pub returns-clause-written : goal.returns-clause-written
returns-clause-written g c =
    let h = c.args.header.now in
    let draft = g.D.Draft in
    let sample : ℕ → List ℕ = sample_by_place h (runs_in c.args.awaited.now) c.args.field c.args.block in
    let now = appended (draft.contents c.loop-place.draft) c.loop-place.buffer.items in
    let none : c.block_samples-samples.result - c.loop-place.place ≡ 0 = omega (arith, c.loop-place-test.false) in
    sym (appended-nil now) ∙ ap (λ n. appended now (flat_map sample (range_with_len c.loop-place.place n))) (sym none) ∙ c.loop-place.invariant.written
