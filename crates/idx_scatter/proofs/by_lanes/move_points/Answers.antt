use Rattle.std.proofs.Common.{List, length, sym, subst}
use Rattle.idx_lanes.specs.declared.lane.Lane.{Lane}
use Rattle.idx_lanes.specs.Lanes.{AreLanes}
use Rattle.idx_lanes.proofs.EachLemmas.{lanes-coordinates, lanes-each}
use Rattle.idx_scatter.specs.Legs.{AllFit, EachMove}
use Rattle.idx_scatter.specs.Moves.{AreMoved, IsAsked, IsRoom, IsThere, IsWanted}
use Rattle.idx_scatter.specs.declared.tally.Tally.{Tally}
use Rattle.idx_scatter.proofs.LanesLemmas.{IsCourse, lanes-fits, lanes-moved, lanes-room, lanes-wanted}
use Rattle.idx_scatter.proofs.by_lanes.move_points.Goals as goal
use Rattle.idx_scatter.proofs.by_lanes.move_points.Goals.{After-start}

planned : (c : After-start) → AreLanes c.args.part.now (length c.args.part.now.region) c.in-Some.lanes.from c.as_slice.result.now
planned c = subst (λ (ls : List Lane). AreLanes c.args.part.now (length c.args.part.now.region) c.in-Some.lanes.from ls) (sym c.as_slice.ensures) c.in-Some.ensures.some

course : (c : After-start) → IsCourse c.args.order.now c.args.part.now c.legs-legs.result
course c = record {
  valid = c.legs-legs.ensures.valid;
  same = c.requires.same;
  unit = c.requires.unit;
  region = c.requires.valid;
  common = c.legs-legs.ensures.common;
  inside = c.requires.inside;
  digits = c.requires.digits;
  each = c.legs-legs.ensures.legs;
}

pub move_lanes-requires-clause-lanes : goal.move_lanes-requires-clause-lanes
move_lanes-requires-clause-lanes c =
    lanes-coordinates c.args.part.now (length c.args.part.now.region) c.in-Some.lanes.from c.as_slice.result.now (planned (goal.at.move_lanes-requires-clause-lanes c).After-start)

pub move_lanes-requires-clause-fits : goal.move_lanes-requires-clause-fits
move_lanes-requires-clause-fits c =
    let at = (goal.at.move_lanes-requires-clause-fits c).After-start in
    subst (λ (t : Tally). AllFit c.legs-legs.result c.as_slice.result.now t) (sym c.start.ensures)
    (lanes-fits c.args.order.now c.args.part.now c.legs-legs.result (course at) c.in-Some.lanes.from c.as_slice.result.now (planned at))

pub move_lanes-requires-clause-within : goal.move_lanes-requires-clause-within
move_lanes-requires-clause-within c =
    let at = (goal.at.move_lanes-requires-clause-within c).After-start in
    subst (λ (t : Tally). EachMove (IsRoom c.args.size c.args.samples.now c.args.into.now) c.legs-legs.result c.as_slice.result.now 0 t) (sym c.start.ensures)
    (lanes-room c.args.order.now c.args.part.now c.legs-legs.result (course at) c.in-Some.lanes.from c.as_slice.result.now (planned at) c.args.size c.args.samples.now c.args.into.now
    (lanes-each (IsThere c.args.order.now c.args.size c.args.samples.now c.args.into.now) c.args.part.now (length c.args.part.now.region) c.in-Some.lanes.from c.as_slice.result.now
    (planned at) c.requires.within))

pub returns-in-Some : goal.returns-in-Some
returns-in-Some c = λ want right.
    let at = (goal.at.returns-in-Some c).After-start in
    let wanted = lanes-wanted c.args.order.now c.args.part.now c.legs-legs.result (course at) c.in-Some.lanes.from c.as_slice.result.now (planned at) want c.args.size c.args.samples.now
    (lanes-each (IsAsked c.args.order.now want c.args.size c.args.samples.now) c.args.part.now (length c.args.part.now.region) c.in-Some.lanes.from c.as_slice.result.now (planned at) right) in
    lanes-moved c.args.order.now c.args.part.now c.legs-legs.result (course at) c.in-Some.lanes.from c.as_slice.result.now (planned at) want c.args.size c.args.into.now c.move_lanes.new.into
    (subst (λ (t : Tally). AreMoved want c.args.size c.legs-legs.result c.as_slice.result.now 0 t c.args.into.now c.move_lanes.new.into) c.start.ensures
    (c.move_lanes.ensures want (subst (λ (t : Tally). EachMove (IsWanted want c.args.size c.args.samples.now) c.legs-legs.result c.as_slice.result.now 0 t) (sym c.start.ensures) wanted)))
