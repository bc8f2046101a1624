use Rattle.std.proofs.Common.{◌≡◌, ℕ, suc, ◌+◌, ◌*◌, ◌<◌, ◌≤◌, List, [], ◌∷◌, length, ap, ◌∙◌, subst, sym, arith}
use Rattle.std.proofs.lemmas.List.Elements.{All-cons, All-nil}
use Rattle.idx_lanes.specs.Spread.{next_part, part_after}
use Rattle.idx_lanes.specs.Copies.{HasCoordinate}
use Rattle.idx_lanes.specs.declared.lane.Lane.{Lane}
use Rattle.idx_scatter.specs.Legs.{EachMove, Fits, leg_of, place_by, tally_at}
use Rattle.idx_scatter.specs.Moves.{AreMoved, IsRoom, IsWanted}
use Rattle.idx_scatter.specs.declared.tally.Tally.{Tally}
use Rattle.idx_scatter.proofs.MoveLemmas.{apart-moved, begins_there, moves-implied, one_is, so_far-all, so_far-more, spots-there, spots-wanted}
use Rattle.idx_scatter.proofs.walk.even_plane.Goals as goal
use Rattle.idx_scatter.proofs.walk.even_plane.Goals.{After-place-first}

pub at-requires : goal.at-requires
at-requires g c = (c.requires.fits 0 c.requires.slower).0

pub at-requires-2 : goal.at-requires-2
at-requires-2 g c = subst (λ (t : Tally). Fits (leg_of c.args.legs.now []) t 0) (sym c.at.ensures) ((c.requires.fits 0 c.requires.slower).1 0 c.requires.counted).0

-- the first point
first_tally : (g : _) (c : goal.After-place-first g) → c.at-2.result ≡ tally_at (leg_of c.args.legs.now []) (tally_at (leg_of c.args.legs.now (c.args.lane.now ∷ [])) c.args.rows.now 0) 0
first_tally g c = c.at-2.ensures ∙ ap (λ (t : Tally). tally_at (leg_of c.args.legs.now []) t 0) c.at.ensures

pub place-first-requires : goal.place-first-requires
place-first-requires g c =
    subst (λ (t : Tally). t.coarse.count ≤ t.fine.count) (sym (c.at-2.ensures ∙ ap (λ (t : Tally). tally_at (leg_of c.args.legs.now []) t 0) c.at.ensures))
    (c.requires.within 0 c.requires.slower 0 c.requires.counted).ordered

-- the places of the points of a row
even : (g : _) (c : goal.After-place-first g) (j : ℕ) → j < c.args.slower.now.count → (k : ℕ) → k < c.args.lane.now.count →
    place_by (tally_at (leg_of c.args.legs.now []) (tally_at (leg_of c.args.legs.now (c.args.lane.now ∷ [])) c.args.rows.now j) k) ≡ c.place-first.result + j * c.args.across + k * c.args.along
even g c j below k lt =
    c.requires.even j k below lt ∙ ap (λ n. n + j * c.args.across + k * c.args.along) (sym (c.place-first.ensures ∙ ap place_by (first_tally g c)))

pub overflow_add-place : goal.overflow_add-place
overflow_add-place g c =
    let size : ℕ = g.S.Sample.bytes c.args.sample in
    let faster : List Lane = c.args.lane.now ∷ [] in
    let tally : Tally = tally_at (leg_of c.args.legs.now faster) c.args.rows.now c.loop-j.j in
    omega (
      arith,
      c.loop-j.invariant.part,
      begins_there size c.args.samples.now c.args.into.now c.args.legs.now faster (c.args.place + part_after c.args.slower.now.bits c.args.slower.now.first c.loop-j.j) tally
          (omega (arith, c.requires.some)) (All-cons HasCoordinate c.args.lane.now [] c.requires.counted (All-nil HasCoordinate)) (c.requires.within c.loop-j.j c.loop-j-test.true),
    )

-- the place of the first point of a row is there
near : (g : _) (c : goal.After-place-first g) (j : ℕ) → j < c.args.slower.now.count → c.place-first.result + j * c.args.across + 1 ≤ length c.args.into.now
near g c j below =
    let size : ℕ = g.S.Sample.bytes c.args.sample in
    let to : ℕ = c.place-first.result + j * c.args.across + 0 * c.args.along in
    let room : (to + 1) * size ≤ length c.args.into.now =
    subst (λ (o : ℕ). (o + 1) * size ≤ length c.args.into.now) (even g c j below 0 c.requires.counted) (c.requires.within j below 0 c.requires.counted).room in
    omega (arith, room, one_is to size c.requires.some)

pub overflow_mul-j : goal.overflow_mul-j
overflow_mul-j g c = omega (arith, near g (goal.at.overflow_mul-j g c).After-place-first c.loop-j.j c.loop-j-test.true)

pub overflow_add-first : goal.overflow_add-first
overflow_add-first g c = omega (arith, near g (goal.at.overflow_add-first g c).After-place-first c.loop-j.j c.loop-j-test.true)

pub even_row-requires-clause-within : goal.even_row-requires-clause-within
even_row-requires-clause-within g c =
    let size : ℕ = g.S.Sample.bytes c.args.sample in
    let faster : List Lane = c.args.lane.now ∷ [] in
    let j : ℕ = c.loop-j.j in
    let tally : Tally = tally_at (leg_of c.args.legs.now faster) c.args.rows.now j in
    spots-there size c.args.samples.now c.loop-j.into c.args.legs.now c.args.lane.now (c.args.place + c.loop-j.part) tally (c.place-first.result + j * c.args.across) c.args.along
    (even g (goal.at.even_row-requires-clause-within g c).After-place-first j c.loop-j-test.true)
    (subst (λ (p : ℕ). EachMove (IsRoom size c.args.samples.now c.loop-j.into) c.args.legs.now faster (c.args.place + p) tally) (sym c.loop-j.invariant.part)
    (moves-implied (IsRoom size c.args.samples.now c.args.into.now) (IsRoom size c.args.samples.now c.loop-j.into)
    (λ o t h. record { ordered = h.ordered; room = omega (arith, h.room, c.loop-j.auto.into); read = h.read })
    c.args.legs.now faster (c.args.place + part_after c.args.slower.now.bits c.args.slower.now.first j) tally (c.requires.within j c.loop-j-test.true)))

pub loop-j-preserved : goal.loop-j-preserved
loop-j-preserved g c =
    let slower : Lane = c.args.slower.now in
    let faster : List Lane = c.args.lane.now ∷ [] in
    let size : ℕ = g.S.Sample.bytes c.args.sample in
    let j : ℕ = c.loop-j.j in
    let next : suc j ≡ j + 1 = omega arith in
    let tally : Tally = tally_at (leg_of c.args.legs.now faster) c.args.rows.now j in
    let first : ℕ = c.place-first.result + j * c.args.across in
    let evenly = even g (goal.at.loop-j-preserved g c).After-place-first j c.loop-j-test.true in
    record {
      part = c.next_part-part.ensures ∙ ap (next_part slower.bits) c.loop-j.invariant.part ∙ ap (part_after slower.bits slower.first) next;
      made = λ want right.
          so_far-more want size c.args.legs.now slower faster c.args.place c.args.rows.now j c.args.into.now c.loop-j.into c.even_row.new.into (c.loop-j.invariant.made want right)
          (subst (λ (p : ℕ). AreMoved want size c.args.legs.now faster (c.args.place + p) tally c.loop-j.into c.even_row.new.into) c.loop-j.invariant.part
          (apart-moved want size c.args.legs.now c.args.lane.now (c.args.place + c.loop-j.part) tally first c.args.along c.loop-j.into c.even_row.new.into evenly
          (c.even_row.ensures want
          (spots-wanted want size c.args.samples.now c.args.legs.now c.args.lane.now (c.args.place + c.loop-j.part) tally first c.args.along evenly
          (subst (λ (p : ℕ). EachMove (IsWanted want size c.args.samples.now) c.args.legs.now faster (c.args.place + p) tally) (sym c.loop-j.invariant.part) (right j c.loop-j-test.true))))));
    }

pub returns : goal.returns
returns g c = λ want right.
    so_far-all want (g.S.Sample.bytes c.args.sample) c.args.legs.now c.args.slower.now (c.args.lane.now ∷ []) c.args.place c.args.rows.now c.loop-j.j c.args.into.now c.loop-j.into
    (omega (arith, c.loop-j-test.false)) (c.loop-j.invariant.made want right)
