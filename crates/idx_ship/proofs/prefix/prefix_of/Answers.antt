use Rattle.std.proofs.Common.{ℕ, List, ◌^◌, ◌<◌, ◌≤◌, sym, subst, arith}
use Rattle.idx_hz.specs.Mask.{HasAddress}
use Rattle.idx_ship.proofs.PrefixLemmas.{front_below, lower_has, prefix_from, prefix_none}
use Rattle.idx_ship.proofs.prefix.prefix_of.Goals as goal

pub z_of-first-requires : goal.z_of-first-requires
z_of-first-requires c =
    subst (λ (p : List ℕ). HasAddress c.args.mask.now p) (sym c.lo.ensures) (lower_has c.args.mask.now c.args.region.now c.requires.address c.axes-axes.ensures.valid)

pub prefix_box-common-requires-clause-front : goal.prefix_box-common-requires-clause-front
prefix_box-common-requires-clause-front c =
    let within : c.min-behind.result ≤ c.len-2.result = omega (arith, c.min-behind.ensures, c.len.ensures.count, c.len-2.ensures.count) in
    front_below c.len-2.result c.min-behind.result c.z_of-first.result within (subst (λ (n : ℕ). c.z_of-first.result < 2 ^ n) (sym c.len-2.ensures.count) c.z_of-first.ensures.small)

pub returns-then-holds : goal.returns-then-holds
returns-then-holds c =
    let within : c.min-behind.result ≤ c.len-2.result = omega (arith, c.min-behind.ensures, c.len.ensures.count, c.len-2.ensures.count) in
    let small = front_below c.len-2.result c.min-behind.result c.z_of-first.result within (subst (λ (n : ℕ). c.z_of-first.result < 2 ^ n) (sym c.len-2.ensures.count) c.z_of-first.ensures.small) in
    prefix_from c.args.mask.now c.args.region.now c.prefix_box-common.result c.axes-axes.result _ _ c.holds-then-holds.result c.axes-axes.ensures.count (omega (arith, c.len-2.ensures.count)) small c.prefix_box-common.ensures.points (c.holds.ensures.points.0 c.if-holds.true) (λ all. c.holds-then-holds.ensures.points.0 all)

pub returns : goal.returns
returns c = prefix_none c.args.mask.now c.args.region.now
