use Rattle.std.proofs.Common.{◌≡◌, ℕ, ◌+◌, ◌-◌, ◌*◌, ◌<◌, ◌≤◌, List, length, take, drop, slice_index, refl, sym, ap, ◌∙◌, ⊎_elim, arith, subst, length-take-le, length-drop}
use Rattle.std.specs.Prelude.{bit_or}
use Rattle.std.proofs.Math.Nat.{mul-le-mul_right}
use Rattle.std.proofs.lemmas.Bool.{cases_lt}
use Rattle.idx_lanes.specs.Written.{written}
use Rattle.idx_lanes.proofs.CopyLemmas.{length-part, put_mid-written}
use Rattle.idx_rowmajor.specs.Rows.{sample_of}
use Rattle.idx_rowmajor.proofs.PickLemmas.{front_kept, part_written, picked_more}
use Rattle.idx_rowmajor.proofs.picks.pick_run.Goals as goal

pub pick_at-requires-clause-read : goal.pick_at-requires-clause-read
pick_at-requires-clause-read g c =
    let k : ℕ = c.loop-k.k in
    let within : 8 * k + 7 < length c.args.low.now = omega (arith, c.loop-k-test.true) in
    subst (λ n. (n + 1) * g.S.Sample.bytes c.args.sample ≤ length c.args.from.now) (c.requires.eights.behind k 7 (omega arith) within) (c.requires.places (8 * k + 7) within)

pub loop-k-preserved : goal.loop-k-preserved
loop-k-preserved g c o here =
    let size : ℕ = c.bytes-size.result in
    let k : ℕ = c.loop-k.k in
    let start : ℕ = 8 * k in
    let end : ℕ = 8 * (k + 1) in
    let from : List ℕ = c.args.from.now in
    let old : List ℕ = c.loop-k.into in
    let part : List ℕ = c.pick_at.new.into in
    let first : ℕ = bit_or (slice_index c.args.low.now start) c.args.high in
    let within : 8 * k + 7 < length c.args.low.now = omega (arith, c.loop-k-test.true) in
    let whole : end * size ≡ start * size + 8 * size = grind arith in
    let room : start * size + 8 * size ≤ length old =
    omega (arith, whole, mul-le-mul_right size (let h : end ≤ length c.args.low.now = omega (arith, within) in h), ap (λ n. length c.args.low.now * n) c.bytes-size.ensures, c.requires.write, c.loop-k.auto.into) in
    let many : end * size - start * size ≡ 8 * size = omega (arith, whole) in
    let long : length part ≡ end * size - start * size = c.pick_at.auto.into ∙ length-take-le (end * size - start * size) (drop (start * size) old) (omega (arith, length-drop (start * size) old, many, room)) in
    ap (λ xs. sample_of size xs o) (put_mid-written (start * size) (end * size - start * size) old part long)
    ∙ ⊎_elim
    (λ (less : o < start). front_kept size start o part old less (omega (arith, room)) ∙ c.loop-k.invariant o less)
    (λ (most : start ≤ o).
    let i : ℕ = o - start in
    let place : o ≡ start + i = omega arith in
    let few : i < 8 = omega (arith, here) in
    let inside : (i + 1) * size ≤ length part = omega (arith, long, many, mul-le-mul_right size (let h : i + 1 ≤ 8 = omega arith in h)) in
    let told : sample_of size part i ≡ sample_of size from (first + slice_index c.args.firsts.now i) =
    subst (λ (n : ℕ). sample_of n part i ≡ sample_of n from (first + slice_index c.args.firsts.now i)) (sym c.bytes-size.ensures) (c.pick_at.ensures i few) in
    ap (sample_of size (written (start * size) part old)) place
    ∙ part_written size start i part old inside (omega (arith, room))
    ∙ told
    ∙ ap (sample_of size from) (sym (c.requires.eights.behind k i few within) ∙ ap (λ n. bit_or (slice_index c.args.low.now n) c.args.high) (sym place)))
    (cases_lt o start)

pub loop-l-preserved : goal.loop-l-preserved
loop-l-preserved g c =
    let size : ℕ = c.bytes-size.result in
    let l : ℕ = c.loop-l.l in
    let from : List ℕ = c.args.from.now in
    let place : ℕ = bit_or (slice_index c.args.low.now l) c.args.high in
    let next : (place + 1) * size ≡ place * size + size = grind arith in
    let read : (place + 1) * size ≤ length from = omega (arith, ap (λ k. (place + 1) * k) c.bytes-size.ensures, c.requires.places l c.loop-l-test.true) in
    let write : (l + 1) * size ≤ length c.loop-l.into =
    omega (arith, mul-le-mul_right size (let h : l + 1 ≤ length c.args.low.now = omega (arith, c.loop-l-test.true) in h), ap (λ k. length c.args.low.now * k) c.bytes-size.ensures, c.requires.write, c.loop-l.auto.into) in
    picked_more (λ o. sample_of size from (bit_or (slice_index c.args.low.now o) c.args.high)) size l (sample_of size from place) c.loop-l.into c.copy.new.out
    (length-part (place * size) size size from refl (omega arith)) write refl
    (c.copy.ensures ∙ ap (λ k. written (l * size) (take k (drop (place * size) from)) c.loop-l.into) (sym c.bytes-size.ensures))
    c.loop-l.invariant
