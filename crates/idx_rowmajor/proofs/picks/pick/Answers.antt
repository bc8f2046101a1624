use Rattle.std.proofs.Common.{rules, ◌≡◌, ℕ, ◌+◌, ◌-◌, ◌*◌, ◌<◌, ◌≤◌, List, length, take, drop, slice_index, sym, ap, ◌∙◌, ⊎_elim, arith, subst, length-take-le, length-drop}
use Rattle.std.specs.Prelude.{bit_or}
use Rattle.std.proofs.Math.Nat.{mul-le-mul_right}
use Rattle.std.proofs.lemmas.Bool.{cases_lt}
use Rattle.std.proofs.lemmas.List.{get_or-take}
use Rattle.idx_lanes.specs.Written.{written}
use Rattle.idx_lanes.proofs.CopyLemmas.{put_mid-written}
use Rattle.idx_rowmajor.specs.Rows.{sample_of}
use Rattle.idx_rowmajor.specs.Tables.{partner_of}
use Rattle.idx_rowmajor.proofs.PickLemmas.{eights_apart, front_kept, part_written, partner_in_run, sevens_apart}
use Rattle.idx_rowmajor.proofs.picks.pick.Goals as goal

pub slice_bounds-pick_run-count-in-loop-number : goal.slice_bounds-pick_run-count-in-loop-number
slice_bounds-pick_run-count-in-loop-number g c =
    mul-le-mul_right c.bytes-size.result (let h : c.loop-number.number * 1024 ≤ c.min-end.result = omega (arith, c.loop-number-test.true, c.div_ceil-number-end.ensures, c.min-end.ensures) in h)

pub slice_bounds-pick_run-start : goal.slice_bounds-pick_run-start
slice_bounds-pick_run-start g c =
    let order : c.loop-number.number * 1024 * c.bytes-size.result ≤ c.min-end.result * c.bytes-size.result =
    mul-le-mul_right c.bytes-size.result (let h : c.loop-number.number * 1024 ≤ c.min-end.result = omega (arith, c.loop-number-test.true, c.div_ceil-number-end.ensures, c.min-end.ensures) in h) in
    search rules

pub pick_run-requires-clause-places : goal.pick_run-requires-clause-places
pick_run-requires-clause-places g c l within =
    let number : ℕ = c.loop-number.number in
    let start : ℕ = number * 1024 in
    let size : ℕ = g.S.Sample.bytes c.args.sample in
    let many : ℕ = c.min-end.result - start in
    let few : many ≤ 1024 = omega (arith, c.min-end.ensures) in
    let long : length (take many c.args.tables.now.low) ≡ many = length-take-le many c.args.tables.now.low (omega arith) in
    let here : l < many = omega (arith, within, long) in
    let inside : start + l < c.args.count = omega (arith, here, c.min-end.ensures) in
    let place : ℕ = partner_of c.args.tables.now (start + l) in
    let same : place ≡ bit_or (slice_index c.args.tables.now.low l) (slice_index c.args.tables.now.high number) = partner_in_run c.args.tables.now number l (omega (arith, here, few)) in
    let room : (place + 1) * size ≤ length c.args.from.now = omega (arith, mul-le-mul_right size (let h : place + 1 ≤ c.args.count = omega (arith, c.requires.places (start + l) inside) in h), c.requires.read) in
    subst (λ k. (k + 1) * size ≤ length c.args.from.now)
    (same ∙ ap (λ k. bit_or k (slice_index c.args.tables.now.high number)) (sym (get_or-take many c.args.tables.now.low l 0 here)))
    room

pub pick_run-requires-clause-eights : goal.pick_run-requires-clause-eights
pick_run-requires-clause-eights g c =
    let number : ℕ = c.loop-number.number in
    let start : ℕ = number * 1024 in
    let many : ℕ = c.min-end.result - start in
    let few : many ≤ 1024 = omega (arith, c.min-end.ensures) in
    let tables = c.args.tables.now in
    let f : ℕ → ℕ = partner_of tables in
    let long : length (take many tables.low) ≡ many = length-take-le many tables.low (omega arith) in
    let entry : (l : ℕ) → l < many → bit_or (slice_index (take many tables.low) l) (slice_index tables.high number) ≡ f (start + l) =
    λ l below. ap (λ k. bit_or k (slice_index tables.high number)) (get_or-take many tables.low l 0 below) ∙ sym (partner_in_run tables number l (omega (arith, below, few))) in
    record {
      behind = λ k i lane within.
          let inside : 8 * k + 7 < many = omega (arith, within, long) in
          let place : start + (8 * k + i) ≡ 8 * (128 * number + k) + i = omega arith in
          let first : 8 * (128 * number + k) ≡ start + 8 * k = omega arith in
          let below : 8 * (128 * number + k) + i < c.args.count = omega (arith, inside, c.min-end.ensures) in
          entry (8 * k + i) (omega (arith, inside, lane))
          ∙ ap f place
          ∙ c.requires.bits (8 * (128 * number + k)) i (eights_apart (128 * number + k) i lane) below
          ∙ ap (λ n. n + f i) (ap f first ∙ sym (entry (8 * k) (omega (arith, inside))))
          ∙ ap (λ n. bit_or (slice_index (take many tables.low) (8 * k)) (slice_index tables.high number) + n) (sym (c.first_places-firsts.ensures.value i lane));
      last = λ i lane within.
          let inside : 7 < many = omega (arith, within, long) in
          let sum : i + (7 - i) ≡ 7 = omega arith in
          let seven : f 7 ≡ f i + f (7 - i) = ap f (sym sum) ∙ c.requires.bits i (7 - i) (sevens_apart i lane) (omega (arith, inside, c.min-end.ensures)) in
          omega (arith, seven, c.first_places-firsts.ensures.value i lane, c.first_places-firsts.ensures.value 7 (omega arith));
    }

-- the bytes of a run, at their place in the block
record IsRun (size number end count : ℕ) (into : List ℕ) : Type 0 where
  many : end - number * 1024 ≤ 1024
  bytes : end * size - number * 1024 * size ≡ (end - number * 1024) * size
  room : number * 1024 * size + (end - number * 1024) * size ≤ length into
  length-is : length (take (end * size - number * 1024 * size) (drop (number * 1024 * size) into)) ≡ (end - number * 1024) * size

run_of : (size number end count : ℕ) (into : List ℕ) → number * 1024 < count → end ≤ number * 1024 + 1024 → end ≤ count → number * 1024 ≤ end → count * size ≤ length into → IsRun size number end count into
run_of size number end count into some far below from room =
    let start : ℕ = number * 1024 in
    let many : ℕ = end - start in
    let sum : end ≡ start + many = omega arith in
    let whole : end * size ≡ start * size + many * size = ap (λ n. n * size) sum ∙ (let h : (start + many) * size ≡ start * size + many * size = grind arith in h) in
    let bytes : end * size - start * size ≡ many * size = omega arith in
    let fits : start * size + many * size ≤ length into = omega (arith, whole, mul-le-mul_right size below, room) in
    record {
      many = omega arith;
      bytes = bytes;
      room = fits;
      length-is = length-take-le (end * size - start * size) (drop (start * size) into) (omega (arith, length-drop (start * size) into, bytes, fits)) ∙ bytes;
    }

pub pick_run-requires-clause-write : goal.pick_run-requires-clause-write
pick_run-requires-clause-write g c =
    let number : ℕ = c.loop-number.number in
    let size : ℕ = c.bytes-size.result in
    let end : ℕ = c.min-end.result in
    let some : number * 1024 < c.args.count = omega (arith, c.loop-number-test.true, c.div_ceil-number-end.ensures) in
    let room : c.args.count * size ≤ length c.loop-number.into = omega (arith, ap (λ k. c.args.count * k) c.bytes-size.ensures, c.requires.write, c.loop-number.auto.into) in
    let is = run_of size number end c.args.count c.loop-number.into some (omega (arith, c.min-end.ensures)) (omega (arith, c.min-end.ensures)) (omega (arith, c.min-end.ensures)) room in
    let few : end - number * 1024 ≤ 1024 = is.many in
    let long : length (take (end - number * 1024) c.args.tables.now.low) ≤ end - number * 1024 = omega (arith, length-take-le (end - number * 1024) c.args.tables.now.low (omega arith)) in
    omega (arith, is.length-is, mul-le-mul_right size long, ap (λ k. length (take (end - number * 1024) c.args.tables.now.low) * k) c.bytes-size.ensures)

pub loop-number-preserved : goal.loop-number-preserved
loop-number-preserved g c o within here =
    let number : ℕ = c.loop-number.number in
    let start : ℕ = number * 1024 in
    let size : ℕ = c.bytes-size.result in
    let end : ℕ = c.min-end.result in
    let old : List ℕ = c.loop-number.into in
    let part : List ℕ = c.pick_run.new.into in
    let some : start < c.args.count = omega (arith, c.loop-number-test.true, c.div_ceil-number-end.ensures) in
    let room : c.args.count * size ≤ length old = omega (arith, ap (λ k. c.args.count * k) c.bytes-size.ensures, c.requires.write, c.loop-number.auto.into) in
    let is = run_of size number end c.args.count old some (omega (arith, c.min-end.ensures)) (omega (arith, c.min-end.ensures)) (omega (arith, c.min-end.ensures)) room in
    let many : ℕ = end - start in
    let few : many ≤ 1024 = is.many in
    let long : length part ≡ many * size = c.pick_run.auto.into ∙ is.length-is in
    let low : length (take many c.args.tables.now.low) ≡ many = length-take-le many c.args.tables.now.low (omega arith) in
    ap (λ xs. sample_of size xs o) (put_mid-written (start * size) (end * size - start * size) old part (long ∙ sym is.bytes))
    ∙ ⊎_elim
    (λ (less : o < start). front_kept size start o part old less (omega (arith, is.room)) ∙ c.loop-number.invariant o within less)
    (λ (most : start ≤ o).
    let l : ℕ = o - start in
    let place : o ≡ start + l = omega arith in
    let inside : l < many = omega (arith, within, here, c.min-end.ensures) in
    let whole : (l + 1) * size ≤ length part = omega (arith, long, mul-le-mul_right size (let h : l + 1 ≤ many = omega arith in h)) in
    let run : sample_of (g.S.Sample.bytes c.args.sample) part l ≡ sample_of (g.S.Sample.bytes c.args.sample) c.args.from.now (bit_or (slice_index (take many c.args.tables.now.low) l) (slice_index c.args.tables.now.high number)) =
    c.pick_run.ensures l (omega (arith, inside, low)) in
    let told : sample_of size part l ≡ sample_of size c.args.from.now (bit_or (slice_index (take many c.args.tables.now.low) l) (slice_index c.args.tables.now.high number)) =
    subst (λ (k : ℕ). sample_of k part l ≡ sample_of k c.args.from.now (bit_or (slice_index (take many c.args.tables.now.low) l) (slice_index c.args.tables.now.high number))) (sym c.bytes-size.ensures) run in
    ap (sample_of size (written (start * size) part old)) place
    ∙ part_written size start l part old whole (omega (arith, is.room))
    ∙ told
    ∙ ap (λ k. sample_of size c.args.from.now (bit_or k (slice_index c.args.tables.now.high number))) (get_or-take many c.args.tables.now.low l 0 inside)
    ∙ ap (sample_of size c.args.from.now) (sym (partner_in_run c.args.tables.now number l (omega (arith, inside, few))) ∙ ap (partner_of c.args.tables.now) (sym place)))
    (cases_lt o start)
