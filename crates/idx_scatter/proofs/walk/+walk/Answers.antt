use Rattle.std.proofs.Common.{◌≡◌, ℕ, suc, ◌+◌, ◌≤◌, List, [], ◌∷◌, length, sym, ap, ◌∙◌, subst, arith, rules}
use Rattle.idx_lanes.specs.Spread.{next_part, part_after}
use Rattle.idx_lanes.specs.declared.lane.Lane.{Lane}
use Rattle.idx_lanes.specs.Copies.{HasCoordinate}
use Rattle.idx_lanes.proofs.CopyLemmas.{All-faster, faster_of, lanes-are, no_lane-is, one_lane-is, slowest_of, two_lanes-are}
use Rattle.idx_scatter.specs.Legs.{AllFit, EachMove, leg_of, tally_at}
use Rattle.idx_scatter.specs.Moves.{AreMoved, IsRoom, IsWanted}
use Rattle.idx_scatter.specs.declared.tally.Tally.{Tally}
use Rattle.idx_scatter.proofs.MoveLemmas.{begins_there, fits-faster, moves-faster, moves-implied, so_far-all, so_far-more}
use Rattle.idx_scatter.proofs.walk.+walk.Goals as goal

pub overflow_add-place : goal.overflow_add-place
overflow_add-place g t c =
    let lanes : List Lane = c.args.lanes.now in
    let size : ℕ = g.S.Sample.bytes c.args.sample in
    let some : 1 ≤ length lanes = omega (arith, c.in-len1-up.len_at_least) in
    let each = moves-faster
    (IsRoom size c.args.samples.now c.args.into.now) c.args.legs.now lanes c.args.place c.loop-k.k c.loop-k.part c.args.rows.now some c.loop-k-test.true c.loop-k.invariant.part c.requires.within in
    omega (
      arith,
      begins_there size c.args.samples.now c.args.into.now c.args.legs.now (faster_of lanes) (c.args.place + c.loop-k.part)
          (tally_at (leg_of c.args.legs.now (faster_of lanes)) c.args.rows.now c.loop-k.k) (omega (arith, c.requires.some)) (All-faster HasCoordinate lanes some c.requires.lanes) each,
    )

pub walk-requires : goal.walk-requires
walk-requires g t c κs within =
    let lanes : List Lane = c.args.lanes.now in
    let size : ℕ = g.S.Sample.bytes c.args.sample in
    let some : 1 ≤ length lanes = omega (arith, c.in-len1-up.len_at_least) in
    let each = moves-faster
    (IsRoom size c.args.samples.now c.args.into.now) c.args.legs.now lanes c.args.place c.loop-k.k c.loop-k.part c.args.rows.now some c.loop-k-test.true c.loop-k.invariant.part c.requires.within in
    let fits = fits-faster c.args.legs.now lanes c.loop-k.k c.args.rows.now some c.loop-k-test.true c.requires.fits in (
      search rules,
      (
        within,
        (
          c.requires.some,
          (
            c.requires.few,
            (
              omega (arith, c.requires.axes, ap length (lanes-are lanes some)),
              (
                All-faster HasCoordinate lanes some c.requires.lanes,
                (
                  subst (λ (t : Tally). AllFit c.args.legs.now (faster_of lanes) t) (sym c.at-tally.ensures) fits.1,
                  subst (λ (t : Tally). EachMove (IsRoom size c.args.samples.now c.loop-k.into) c.args.legs.now (faster_of lanes) (c.args.place + c.loop-k.part) t) (sym c.at-tally.ensures)
                      (moves-implied (IsRoom size c.args.samples.now c.args.into.now) (IsRoom size c.args.samples.now c.loop-k.into)
                      (λ o t h. record { ordered = h.ordered; room = omega (arith, h.room, c.loop-k.auto.into); read = h.read })
                      c.args.legs.now (faster_of lanes) (c.args.place + c.loop-k.part) (tally_at (leg_of c.args.legs.now (faster_of lanes)) c.args.rows.now c.loop-k.k) each),
                ),
              ),
            ),
          ),
        ),
      ),
    )

pub row-requires-clause-fits : goal.row-requires-clause-fits
row-requires-clause-fits g t c =
    let lanes : List Lane = c.args.lanes.now in
    subst (λ (ls : List Lane). AllFit c.args.legs.now ls c.args.rows.now) (sym (one_lane-is lanes (omega (arith, c.in-len1.len_at_least)) c.in-len1.len_below)) c.requires.fits

pub loop-k-preserved : goal.loop-k-preserved
loop-k-preserved g t c =
    let lanes : List Lane = c.args.lanes.now in
    let lane : Lane = slowest_of lanes in
    let size : ℕ = g.S.Sample.bytes c.args.sample in
    let k : ℕ = c.loop-k.k in
    let next : suc k ≡ k + 1 = omega arith in
    let tally : Tally = tally_at (leg_of c.args.legs.now (faster_of lanes)) c.args.rows.now k in
    record {
      part = c.next_part-part.ensures ∙ ap (next_part lane.bits) c.loop-k.invariant.part ∙ ap (part_after lane.bits lane.first) next;
      made = λ want right.
          so_far-more want size c.args.legs.now lane (faster_of lanes) c.args.place c.args.rows.now k c.args.into.now c.loop-k.into c.walk.new.into (c.loop-k.invariant.made want right)
          (subst (λ (n : ℕ). AreMoved want size c.args.legs.now (faster_of lanes) (c.args.place + n) tally c.loop-k.into c.walk.new.into) c.loop-k.invariant.part
          (subst (λ (t : Tally). AreMoved want size c.args.legs.now (faster_of lanes) (c.args.place + c.loop-k.part) t c.loop-k.into c.walk.new.into) c.at-tally.ensures
          (c.walk.ensures want
          (subst (λ (t : Tally). EachMove (IsWanted want size c.args.samples.now) c.args.legs.now (faster_of lanes) (c.args.place + c.loop-k.part) t) (sym c.at-tally.ensures)
          (subst (λ (n : ℕ). EachMove (IsWanted want size c.args.samples.now) c.args.legs.now (faster_of lanes) (c.args.place + n) tally) (sym c.loop-k.invariant.part)
          (right k c.loop-k-test.true))))));
    }

pub returns-in-empty : goal.returns-in-empty
returns-in-empty g t c = λ want right.
    let lanes : List Lane = c.args.lanes.now in
    let size : ℕ = g.S.Sample.bytes c.args.sample in
    let none : [] ≡ lanes = no_lane-is lanes c.in-empty.len_below in
    let wanted : IsWanted want size c.args.samples.now c.args.place c.args.rows.now =
    subst (λ (ls : List Lane). EachMove (IsWanted want size c.args.samples.now) c.args.legs.now ls c.args.place c.args.rows.now) (sym none) right in
    subst (λ (ls : List Lane). AreMoved want size c.args.legs.now ls c.args.place c.args.rows.now c.args.into.now c.move_sample.new.into) none (c.move_sample.ensures want wanted)

pub returns-in-len1 : goal.returns-in-len1
returns-in-len1 g t c = λ want right.
    let lanes : List Lane = c.args.lanes.now in
    let size : ℕ = g.S.Sample.bytes c.args.sample in
    let one : slowest_of lanes ∷ [] ≡ lanes = one_lane-is lanes (omega (arith, c.in-len1.len_at_least)) c.in-len1.len_below in
    subst (λ (ls : List Lane). AreMoved want size c.args.legs.now ls c.args.place c.args.rows.now c.args.into.now c.row.new.into) one
    (c.row.ensures want (subst (λ (ls : List Lane). EachMove (IsWanted want size c.args.samples.now) c.args.legs.now ls c.args.place c.args.rows.now) (sym one) right))

pub returns-after-loop-k : goal.returns-after-loop-k
returns-after-loop-k g t c = λ want right.
    let lanes : List Lane = c.args.lanes.now in
    let size : ℕ = g.S.Sample.bytes c.args.sample in
    let some : 1 ≤ length lanes = omega (arith, c.in-len1-up.len_at_least) in
    let whole : slowest_of lanes ∷ faster_of lanes ≡ lanes = lanes-are lanes some in
    subst (λ (ls : List Lane). AreMoved want size c.args.legs.now ls c.args.place c.args.rows.now c.args.into.now c.loop-k.into) whole
    (so_far-all want size c.args.legs.now (slowest_of lanes) (faster_of lanes) c.args.place c.args.rows.now c.loop-k.k c.args.into.now c.loop-k.into (omega (arith, c.loop-k-test.false))
    (c.loop-k.invariant.made want (subst (λ (ls : List Lane). EachMove (IsWanted want size c.args.samples.now) c.args.legs.now ls c.args.place c.args.rows.now) (sym whole) right)))

pub plane-requires-clause-fits : goal.plane-requires-clause-fits
plane-requires-clause-fits g t c =
    let lanes : List Lane = c.args.lanes.now in
    subst (λ (ls : List Lane). AllFit c.args.legs.now ls c.args.rows.now) (sym (two_lanes-are lanes (omega (arith, c.in-len2.len_at_least)) c.in-len2.len_below)) c.requires.fits

pub returns-in-len2 : goal.returns-in-len2
returns-in-len2 g t c = λ want right.
    let lanes : List Lane = c.args.lanes.now in
    let size : ℕ = g.S.Sample.bytes c.args.sample in
    let two = two_lanes-are lanes (omega (arith, c.in-len2.len_at_least)) c.in-len2.len_below in
    subst (λ (ls : List Lane). AreMoved want size c.args.legs.now ls c.args.place c.args.rows.now c.args.into.now c.plane.new.into) two
    (c.plane.ensures want (subst (λ (ls : List Lane). EachMove (IsWanted want size c.args.samples.now) c.args.legs.now ls c.args.place c.args.rows.now) (sym two) right))
