use Rattle.std.proofs.Common.{◌≡◌, ℕ, suc, ◌+◌, ◌*◌, ◌≤◌, List, [], ◌∷◌, get_or, length, sym, ap, ◌∙◌, subst, arith, rules}
use Rattle.idx_lanes.specs.Spread.{next_part, part_after}
use Rattle.idx_lanes.specs.declared.lane.Lane.{Lane}
use Rattle.idx_lanes.specs.Copies.{AreMade, EachCopy, HasCoordinate, IsWanted, IsWithin}
use Rattle.idx_lanes.proofs.CopyLemmas.{All-faster, no_lane, two_lanes-are, begins_within, copy-made, each-faster, each-implied, faster_of, lanes-are, no_lane-is, one_lane-is, slowest_of, so_far-all, so_far-more}
use Rattle.idx_block.proofs.walk.+walk.Goals as goal

pub overflow_mul-k : goal.overflow_mul-k
overflow_mul-k g t c =
    let lanes : List Lane = c.args.lanes.now in
    let size : ℕ = g.S.Sample.bytes c.args.sample in
    let some : 1 ≤ length lanes = omega (arith, c.in-len1-up.len_at_least) in
    let each = each-faster
    (IsWithin size c.args.samples.now c.args.into.now) lanes c.args.from c.args.place c.loop-k.k c.loop-k.part some c.loop-k-test.true c.loop-k.invariant.part c.requires.within in
    let begins = begins_within size c.args.samples.now c.args.into.now (faster_of lanes) (c.args.from + c.loop-k.k * (slowest_of lanes).step) (c.args.place + c.loop-k.part)
    (omega (arith, c.requires.some)) (All-faster HasCoordinate lanes some c.requires.lanes) each in
    omega (arith, begins.0)

pub overflow_add-from : goal.overflow_add-from
overflow_add-from g t c =
    let lanes : List Lane = c.args.lanes.now in
    let size : ℕ = g.S.Sample.bytes c.args.sample in
    let some : 1 ≤ length lanes = omega (arith, c.in-len1-up.len_at_least) in
    let each = each-faster
    (IsWithin size c.args.samples.now c.args.into.now) lanes c.args.from c.args.place c.loop-k.k c.loop-k.part some c.loop-k-test.true c.loop-k.invariant.part c.requires.within in
    let begins = begins_within size c.args.samples.now c.args.into.now (faster_of lanes) (c.args.from + c.loop-k.k * (slowest_of lanes).step) (c.args.place + c.loop-k.part)
    (omega (arith, c.requires.some)) (All-faster HasCoordinate lanes some c.requires.lanes) each in
    omega (arith, begins.0)

pub overflow_add-place : goal.overflow_add-place
overflow_add-place g t c =
    let lanes : List Lane = c.args.lanes.now in
    let size : ℕ = g.S.Sample.bytes c.args.sample in
    let some : 1 ≤ length lanes = omega (arith, c.in-len1-up.len_at_least) in
    let each = each-faster
    (IsWithin size c.args.samples.now c.args.into.now) lanes c.args.from c.args.place c.loop-k.k c.loop-k.part some c.loop-k-test.true c.loop-k.invariant.part c.requires.within in
    let begins = begins_within size c.args.samples.now c.args.into.now (faster_of lanes) (c.args.from + c.loop-k.k * (slowest_of lanes).step) (c.args.place + c.loop-k.part)
    (omega (arith, c.requires.some)) (All-faster HasCoordinate lanes some c.requires.lanes) each in
    omega (arith, begins.1)

pub walk-requires : goal.walk-requires
walk-requires g t c κs within =
    let lanes : List Lane = c.args.lanes.now in
    let size : ℕ = g.S.Sample.bytes c.args.sample in
    let some : 1 ≤ length lanes = omega (arith, c.in-len1-up.len_at_least) in
    let each = each-faster
    (IsWithin size c.args.samples.now c.args.into.now) lanes c.args.from c.args.place c.loop-k.k c.loop-k.part some c.loop-k-test.true c.loop-k.invariant.part c.requires.within in (
      search rules,
      (
        within,
        (
          c.requires.some,
          (
            c.requires.few,
            (
              All-faster HasCoordinate lanes some c.requires.lanes,
              each-implied (IsWithin size c.args.samples.now c.args.into.now) (IsWithin size c.args.samples.now c.loop-k.into) (λ f o h. (h.0, omega (arith, h.1, c.loop-k.auto.into)))
                  (faster_of lanes) (c.args.from + c.loop-k.k * (slowest_of lanes).step) (c.args.place + c.loop-k.part) each,
            ),
          ),
        ),
      ),
    )

pub loop-k-preserved : goal.loop-k-preserved
loop-k-preserved g t c =
    let lanes : List Lane = c.args.lanes.now in
    let lane : Lane = slowest_of lanes in
    let size : ℕ = g.S.Sample.bytes c.args.sample in
    let k : ℕ = c.loop-k.k in
    let next : suc k ≡ k + 1 = omega arith in
    record {
      part = c.next_part-part.ensures ∙ ap (next_part lane.bits) c.loop-k.invariant.part ∙ ap (part_after lane.bits lane.first) next;
      made = λ want right.
          so_far-more want size lane (faster_of lanes) c.args.from c.args.place k c.args.into.now c.loop-k.into c.walk.new.into (c.loop-k.invariant.made want right)
          (subst (λ (n : ℕ). AreMade want size (faster_of lanes) (c.args.from + k * lane.step) (c.args.place + n) c.loop-k.into c.walk.new.into) c.loop-k.invariant.part
          (c.walk.ensures want
          (subst (λ (n : ℕ). EachCopy (IsWanted want size c.args.samples.now) (faster_of lanes) (c.args.from + k * lane.step) (c.args.place + n)) (sym c.loop-k.invariant.part)
          (right k c.loop-k-test.true))));
    }

pub returns-in-empty : goal.returns-in-empty
returns-in-empty g t c = λ want right.
    let lanes : List Lane = c.args.lanes.now in
    let size : ℕ = g.S.Sample.bytes c.args.sample in
    let none : [] ≡ lanes = no_lane-is lanes c.in-empty.len_below in
    let fits : IsWithin size c.args.samples.now c.args.into.now c.args.from c.args.place =
    subst (λ (ls : List Lane). EachCopy (IsWithin size c.args.samples.now c.args.into.now) ls c.args.from c.args.place) (sym none) c.requires.within in
    let wanted : IsWanted want size c.args.samples.now c.args.from c.args.place =
    subst (λ (ls : List Lane). EachCopy (IsWanted want size c.args.samples.now) ls c.args.from c.args.place) (sym none) right in
    subst (λ (ls : List Lane). AreMade want size ls c.args.from c.args.place c.args.into.now c.copy.new.out) none
    (copy-made want size c.args.from c.args.place (c.args.place * c.bytes.result) c.args.samples.now c.args.into.now c.copy.new.out fits.0 fits.1
    (ap (λ n. c.args.place * n) c.bytes.ensures) c.copy.ensures wanted)

pub returns-in-len1 : goal.returns-in-len1
returns-in-len1 g t c = λ want right.
    let lanes : List Lane = c.args.lanes.now in
    let size : ℕ = g.S.Sample.bytes c.args.sample in
    let one : slowest_of lanes ∷ [] ≡ lanes = one_lane-is lanes (omega (arith, c.in-len1.len_at_least)) c.in-len1.len_below in
    subst (λ (ls : List Lane). AreMade want size ls c.args.from c.args.place c.args.into.now c.row.new.into) one
    (c.row.ensures want (subst (λ (ls : List Lane). EachCopy (IsWanted want size c.args.samples.now) ls c.args.from c.args.place) (sym one) right))

pub returns-after-loop-k : goal.returns-after-loop-k
returns-after-loop-k g t c = λ want right.
    let lanes : List Lane = c.args.lanes.now in
    let size : ℕ = g.S.Sample.bytes c.args.sample in
    let some : 1 ≤ length lanes = omega (arith, c.in-len1-up.len_at_least) in
    let whole : slowest_of lanes ∷ faster_of lanes ≡ lanes = lanes-are lanes some in
    subst (λ (ls : List Lane). AreMade want size ls c.args.from c.args.place c.args.into.now c.loop-k.into) whole
    (so_far-all want size (slowest_of lanes) (faster_of lanes) c.args.from c.args.place c.loop-k.k c.args.into.now c.loop-k.into (omega (arith, c.loop-k-test.false))
    (c.loop-k.invariant.made want (subst (λ (ls : List Lane). EachCopy (IsWanted want size c.args.samples.now) ls c.args.from c.args.place) (sym whole) right)))

pub returns-in-len2 : goal.returns-in-len2
returns-in-len2 g t c = λ want right.
    let lanes : List Lane = c.args.lanes.now in
    let size : ℕ = g.S.Sample.bytes c.args.sample in
    let two : get_or lanes 0 no_lane ∷ (get_or lanes 1 no_lane ∷ []) ≡ lanes = two_lanes-are lanes (omega (arith, c.in-len2.len_at_least)) c.in-len2.len_below in
    subst (λ (ls : List Lane). AreMade want size ls c.args.from c.args.place c.args.into.now c.rows.new.into) two
    (c.rows.ensures want (subst (λ (ls : List Lane). EachCopy (IsWanted want size c.args.samples.now) ls c.args.from c.args.place) (sym two) right))
