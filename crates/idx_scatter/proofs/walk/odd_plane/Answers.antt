use Rattle.std.proofs.Common.{◌≡◌, ℕ, suc, ◌+◌, List, [], ◌∷◌, ap, ◌∙◌, subst, sym, arith}
use Rattle.std.proofs.lemmas.List.Elements.{All-cons, All-nil}
use Rattle.idx_lanes.specs.Spread.{next_part, part_after}
use Rattle.idx_lanes.specs.Copies.{HasCoordinate}
use Rattle.idx_lanes.specs.declared.lane.Lane.{Lane}
use Rattle.idx_scatter.specs.Legs.{AllFit, EachMove, leg_of, tally_at}
use Rattle.idx_scatter.specs.Moves.{AreMoved, IsRoom, IsWanted}
use Rattle.idx_scatter.specs.declared.tally.Tally.{Tally}
use Rattle.idx_scatter.proofs.MoveLemmas.{begins_there, moves-implied, so_far-all, so_far-more}
use Rattle.idx_scatter.proofs.walk.odd_plane.Goals as goal

pub at-tally-requires : goal.at-tally-requires
at-tally-requires g c = (c.requires.fits c.loop-k.k c.loop-k-test.true).0

pub overflow_add-place : goal.overflow_add-place
overflow_add-place g c =
    let size : ℕ = g.S.Sample.bytes c.args.sample in
    let faster : List Lane = c.args.lane.now ∷ [] in
    let tally : Tally = tally_at (leg_of c.args.legs.now faster) c.args.rows.now c.loop-k.k in
    omega (
      arith,
      c.loop-k.invariant.part,
      begins_there size c.args.samples.now c.args.into.now c.args.legs.now faster (c.args.place + part_after c.args.slower.now.bits c.args.slower.now.first c.loop-k.k) tally
          (omega (arith, c.requires.some)) (All-cons HasCoordinate c.args.lane.now [] c.requires.counted (All-nil HasCoordinate)) (c.requires.within c.loop-k.k c.loop-k-test.true),
    )

pub row-requires-clause-fits : goal.row-requires-clause-fits
row-requires-clause-fits g c =
    subst (λ (t : Tally). AllFit c.args.legs.now (c.args.lane.now ∷ []) t) (sym c.at-tally.ensures) (c.requires.fits c.loop-k.k c.loop-k-test.true).1

pub row-requires-clause-within : goal.row-requires-clause-within
row-requires-clause-within g c =
    let size : ℕ = g.S.Sample.bytes c.args.sample in
    let faster : List Lane = c.args.lane.now ∷ [] in
    let tally : Tally = tally_at (leg_of c.args.legs.now faster) c.args.rows.now c.loop-k.k in
    subst (λ (t : Tally). EachMove (IsRoom size c.args.samples.now c.loop-k.into) c.args.legs.now faster (c.args.place + c.loop-k.part) t) (sym c.at-tally.ensures)
    (subst (λ (p : ℕ). EachMove (IsRoom size c.args.samples.now c.loop-k.into) c.args.legs.now faster (c.args.place + p) tally) (sym c.loop-k.invariant.part)
    (moves-implied (IsRoom size c.args.samples.now c.args.into.now) (IsRoom size c.args.samples.now c.loop-k.into)
    (λ o t h. record { ordered = h.ordered; room = omega (arith, h.room, c.loop-k.auto.into); read = h.read })
    c.args.legs.now faster (c.args.place + part_after c.args.slower.now.bits c.args.slower.now.first c.loop-k.k) tally (c.requires.within c.loop-k.k c.loop-k-test.true)))

pub loop-k-preserved : goal.loop-k-preserved
loop-k-preserved g c =
    let slower : Lane = c.args.slower.now in
    let faster : List Lane = c.args.lane.now ∷ [] in
    let size : ℕ = g.S.Sample.bytes c.args.sample in
    let k : ℕ = c.loop-k.k in
    let next : suc k ≡ k + 1 = omega arith in
    let tally : Tally = tally_at (leg_of c.args.legs.now faster) c.args.rows.now k in
    record {
      part = c.next_part-part.ensures ∙ ap (next_part slower.bits) c.loop-k.invariant.part ∙ ap (part_after slower.bits slower.first) next;
      made = λ want right.
          so_far-more want size c.args.legs.now slower faster c.args.place c.args.rows.now k c.args.into.now c.loop-k.into c.row.new.into (c.loop-k.invariant.made want right)
          (subst (λ (p : ℕ). AreMoved want size c.args.legs.now faster (c.args.place + p) tally c.loop-k.into c.row.new.into) c.loop-k.invariant.part
          (subst (λ (t : Tally). AreMoved want size c.args.legs.now faster (c.args.place + c.loop-k.part) t c.loop-k.into c.row.new.into) c.at-tally.ensures
          (c.row.ensures want
          (subst (λ (t : Tally). EachMove (IsWanted want size c.args.samples.now) c.args.legs.now faster (c.args.place + c.loop-k.part) t) (sym c.at-tally.ensures)
          (subst (λ (p : ℕ). EachMove (IsWanted want size c.args.samples.now) c.args.legs.now faster (c.args.place + p) tally) (sym c.loop-k.invariant.part) (right k c.loop-k-test.true))))));
    }

pub returns : goal.returns
returns g c = λ want right.
    so_far-all want (g.S.Sample.bytes c.args.sample) c.args.legs.now c.args.slower.now (c.args.lane.now ∷ []) c.args.place c.args.rows.now c.loop-k.k c.args.into.now c.loop-k.into
    (omega (arith, c.loop-k-test.false)) (c.loop-k.invariant.made want right)
