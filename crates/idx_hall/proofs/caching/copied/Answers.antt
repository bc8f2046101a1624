use Rattle.std.proofs.Common.{◌<◌, ◌≤◌, length, arith, sym}
use Rattle.idx_hall.proofs.CopyLemmas.{is-there, put-next}
use Rattle.idx_hall.proofs.caching.copied.Goals as goal

pub loop-place-preserved-in-Some : goal.loop-place-preserved-in-Some
loop-place-preserved-in-Some c =
    let some : 0 < c.loop-place.place = omega (arith, c.loop-place-test.true) in
    let few : c.loop-place.place ≤ length c.in_ok-names.names.items = omega (arith, c.loop-place.auto.place, c.len-place.ensures) in
    let done = put-next c.args.cache.now c.in_ok-names.names.items c.loop-place.place c.len-valid.ensures.valid some few c.in_ok-names.ensures c.loop-place.copy c.put.new.self
    c.index.result.now c.index-in-Some.result.now c.in-Some.block.now c.in_ok-share.field-0 c.index.ensures c.index-in-Some.ensures c.in-Some.ensures c.in_ok-share.ensures
    c.loop-place.invariant.pairs c.loop-place.invariant.room c.put.ensures.pairs in
    record { pairs = done.pairs; room = done.room }

pub loop-place-preserved : goal.loop-place-preserved
loop-place-preserved c =
    let some : 0 < c.loop-place.place = omega (arith, c.loop-place-test.true) in
    let few : c.loop-place.place ≤ length c.in_ok-names.names.items = omega (arith, c.loop-place.auto.place, c.len-place.ensures) in
    absurd (is-there c.args.cache.now c.in_ok-names.names.items c.loop-place.place c.len-valid.ensures.valid some few c.in_ok-names.ensures c.index.result.now c.index.ensures (sym c.in_default.ensures))
