use Rattle.std.proofs.Common.{◌-◌, List, drop, length}
use Rattle.idx_lanes.specs.declared.lane.Lane.{Lane}
use Rattle.idx_lanes.specs.Copies.{IsWanted, IsWithin}
use Rattle.idx_lanes.proofs.EachLemmas.{lanes-coordinates, lanes-copied, lanes-each}
use Rattle.idx_block.proofs.copy.copy_points.Goals as goal

pub copy_along-requires-clause-lanes : goal.copy_along-requires-clause-lanes
copy_along-requires-clause-lanes c =
    let found = c.in-Some.lanes in
    let lanes : List Lane = drop (5 - found.axes) found.lanes in
    lanes-coordinates c.args.part.now (length c.args.part.now.region) found.from lanes c.in-Some.ensures.some

pub copy_along-requires-clause-within : goal.copy_along-requires-clause-within
copy_along-requires-clause-within c =
    let found = c.in-Some.lanes in
    let lanes : List Lane = drop (5 - found.axes) found.lanes in
    lanes-each (IsWithin c.args.part.now.size c.args.samples.now c.args.into.now) c.args.part.now (length c.args.part.now.region) found.from lanes c.in-Some.ensures.some c.requires.within

pub returns-in-Some : goal.returns-in-Some
returns-in-Some c = λ want right.
    let found = c.in-Some.lanes in
    let lanes : List Lane = drop (5 - found.axes) found.lanes in
    lanes-copied want c.args.part.now (length c.args.part.now.region) found.from lanes c.args.into.now c.copy_along.new.into c.in-Some.ensures.some
    (c.copy_along.ensures want
    (lanes-each (IsWanted want c.args.part.now.size c.args.samples.now) c.args.part.now (length c.args.part.now.region) found.from lanes c.in-Some.ensures.some right))
