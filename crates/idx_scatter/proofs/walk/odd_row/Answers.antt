use Rattle.std.proofs.Common.{◌≡◌, ℕ, suc, ◌+◌, [], ap, ◌∙◌, subst, sym, arith}
use Rattle.idx_lanes.specs.Spread.{next_part, part_after}
use Rattle.idx_scatter.specs.Legs.{leg_of, tally_at}
use Rattle.idx_scatter.specs.Moves.{AreMoved, IsWanted}
use Rattle.idx_scatter.specs.declared.tally.Tally.{Tally}
use Rattle.idx_scatter.proofs.MoveLemmas.{one_is, so_far-all, so_far-more}
use Rattle.idx_scatter.proofs.walk.odd_row.Goals as goal

pub overflow_add-place : goal.overflow_add-place
overflow_add-place g c =
    let fits = c.requires.within c.loop-k.k c.loop-k-test.true in
    omega (arith, fits.read, c.loop-k.invariant.part, one_is (c.args.place + part_after c.args.lane.now.bits c.args.lane.now.first c.loop-k.k) (g.S.Sample.bytes c.args.sample) c.requires.some)

pub returns : goal.returns
returns g c = λ want right.
    let lane = c.args.lane.now in
    so_far-all want (g.S.Sample.bytes c.args.sample) c.args.legs.now lane [] c.args.place c.args.rows.now c.loop-k.k c.args.into.now c.loop-k.into (omega (arith, c.loop-k-test.false))
    (c.loop-k.invariant.made want right)

pub loop-k-preserved : goal.loop-k-preserved
loop-k-preserved g c =
    let lane = c.args.lane.now in
    let size : ℕ = g.S.Sample.bytes c.args.sample in
    let k : ℕ = c.loop-k.k in
    let next : suc k ≡ k + 1 = omega arith in
    let tally : Tally = tally_at (leg_of c.args.legs.now []) c.args.rows.now k in
    record {
      part = c.next_part-part.ensures ∙ ap (next_part lane.bits) c.loop-k.invariant.part ∙ ap (part_after lane.bits lane.first) next;
      made = λ want right.
          so_far-more want size c.args.legs.now lane [] c.args.place c.args.rows.now k c.args.into.now c.loop-k.into c.move_sample.new.into (c.loop-k.invariant.made want right)
          (subst (λ (p : ℕ). AreMoved want size c.args.legs.now [] (c.args.place + p) tally c.loop-k.into c.move_sample.new.into) c.loop-k.invariant.part
          (subst (λ (t : Tally). AreMoved want size c.args.legs.now [] (c.args.place + c.loop-k.part) t c.loop-k.into c.move_sample.new.into) c.at-tally.ensures
          (c.move_sample.ensures want
          (subst (λ (t : Tally). IsWanted want size c.args.samples.now (c.args.place + c.loop-k.part) t) (sym c.at-tally.ensures)
          (subst (λ (p : ℕ). IsWanted want size c.args.samples.now (c.args.place + p) tally) (sym c.loop-k.invariant.part) (right k c.loop-k-test.true))))));
    }
