use Rattle.std.proofs.Common.{◌≡◌, ◌≤◌, length, arith, false}
use Rattle.idx_ship.specs.Spans.{block_addresses}
use Rattle.idx_layout.specs.Placing.{has_point_in}
use Rattle.idx_ship.proofs.CutLemmas.{absent_block, added_both, added_none, halves, halves_exist}
use Rattle.idx_ship.proofs.cut.+cut.Goals as goal

pub returns-then-not-has_point_in : goal.returns-then-not-has_point_in
returns-then-not-has_point_in t c =
    let none : has_point_in c.args.mask.now c.args.region.now c.args.bits c.args.number ≡ false = cc in
    added_none c.args.mask.now (block_addresses c.args.mask.now c.args.region.now c.args.bits c.args.number) c.args.spans.now.items
    (absent_block c.args.mask.now c.args.region.now c.args.bits c.args.number none)

pub cut-requires : goal.cut-requires
cut-requires t c =
    let some : 1 ≤ c.args.bits = c.is_whole.ensures.one c.if-is_whole.false in
    let exist = halves_exist (length c.args.mask.now) c.args.bits c.args.number some c.requires.bits c.requires.mask.few c.requires.exists in
    (omega arith, (c.requires.mask, (c.requires.address, (omega arith, (omega arith, omega (arith, exist.0))))))

pub cut-requires-2 : goal.cut-requires-2
cut-requires-2 t c =
    let some : 1 ≤ c.args.bits = c.is_whole.ensures.one c.if-is_whole.false in
    let exist = halves_exist (length c.args.mask.now) c.args.bits c.args.number some c.requires.bits c.requires.mask.few c.requires.exists in
    (omega arith, (c.requires.mask, (c.requires.address, (omega arith, (omega arith, omega (arith, exist.0))))))

pub returns : goal.returns
returns t c =
    let some : 1 ≤ c.args.bits = c.is_whole.ensures.one c.if-is_whole.false in
    added_both c.args.mask.now _ _ _ c.args.spans.now.items c.cut.new.spans.items c.cut-2.new.spans.items
    (halves c.args.mask.now c.args.region.now c.args.bits c.args.number some) c.in_ok-cut.ensures c.in_ok-cut-2.ensures
