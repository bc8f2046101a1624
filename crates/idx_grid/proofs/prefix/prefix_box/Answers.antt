use Rattle.std.proofs.Common.{◌≡◌, ◌+◌, ◌-◌, ◌*◌, ◌^◌, ◌<◌, ◌≤◌, ◌↔◌, length, get_or, sym, ap, ◌∙◌, subst, arith}
use Rattle.std.specs.List.{zip}
use Rattle.std.proofs.Math.Pow.{pow_mono}
use Rattle.std.proofs.lemmas.List.{length-set}
use Rattle.std.proofs.lemmas.List.Elements.{All-set}
use Rattle.idx_geom.specs.Region.{LiesIn, AreEnds}
use Rattle.idx_geom.proofs.EndsLemmas.{length-zip_ends}
use Rattle.idx_geom.proofs.RegionSteps.{known_more}
use Rattle.idx_hz.specs.Mask.{bit_count}
use Rattle.idx_hz.specs.Stride.{stride}
use Rattle.idx_hz.proofs.MaskLemmas.{bit_count-le}
use Rattle.idx_hz.proofs.PointLemmas.{Some-from_SomeIff, value-from_SomeIff}
use Rattle.idx_grid.specs.Block.{HasPrefix}
use Rattle.idx_grid.proofs.BoxLemmas.{lowest_address, IsCorner-made, AreUpper-taken, same_axes-taken, AreEnds-box, upper_below, box_iff_prefix}
use Rattle.idx_grid.proofs.prefix.prefix_box.Goals as goal

pub point_of_z-lo-requires-clause-small : goal.point_of_z-lo-requires-clause-small
point_of_z-lo-requires-clause-small c =
    let address = lowest_address c.len.result c.args.digits c.args.front (omega (arith, c.requires.digits)) (omega (arith, c.len.ensures.valid.few)) c.requires.front in
    subst (λ n. n < 2 ^ length c.args.mask.now) (sym address.0) (subst (λ n. c.args.front * 2 ^ (c.len.result - c.args.digits) < 2 ^ n) c.len.ensures.count address.1)

pub loop-axis-preserved : goal.loop-axis-preserved
loop-axis-preserved c =
    let k = c.loop-axis.axis in
    let lo = c.point_of_z-lo.result in
    let mask = c.args.mask.now in
    let within : k < length lo = omega (arith, c.point_of_z-lo.ensures.count) in
    let room : k < length c.loop-axis.upper = omega (arith, c.loop-axis.invariant.room, c.requires.axes) in
    let corner = IsCorner-made mask lo c.args.digits c.args.front c.len.result c.len.ensures.count (omega (arith, c.len.ensures.valid.few)) c.requires.digits c.requires.front c.point_of_z-lo.ensures.below c.point_of_z-lo.ensures.address in
    let known_stride : get_or c.strides-strides.result k 0 ≡ stride mask c.args.digits k = c.strides-strides.ensures.value k (omega (arith, c.strides-strides.ensures.room, c.requires.axes)) in
    let here : c.get.result + get_or c.strides-strides.result k 0 - 1 ≡ get_or lo k 0 + stride mask c.args.digits k - 1 = omega (arith, c.get.ensures.value) in
    let bits : bit_count k mask ≤ 40 = omega (arith, bit_count-le k mask, c.len.ensures.valid.few) in
    let few : c.get.result + get_or c.strides-strides.result k 0 - 1 ≤ 2 ^ 40 = omega (arith, upper_below mask lo c.args.digits c.args.front corner k within, pow_mono bits) in
    record {
      room = length-set c.loop-axis.upper k (c.get.result + get_or c.strides-strides.result k 0 - 1) ∙ c.loop-axis.invariant.room;
      known = known_more c.loop-axis.upper k (c.get.result + get_or c.strides-strides.result k 0 - 1) (λ a. get_or lo a 0 + stride mask c.args.digits a - 1) room c.loop-axis.invariant.known here;
      small = All-set (λ x. x ≤ 2 ^ 40) c.loop-axis.upper k (c.get.result + get_or c.strides-strides.result k 0 - 1) few c.loop-axis.invariant.small;
    }

pub unwrap-requires : goal.unwrap-requires
unwrap-requires c =
    let lo = c.point_of_z-lo.result in
    let hi = c.point_of.result in
    let same = same_axes-taken lo hi c.loop-axis.upper c.args.axes c.point_of.ensures c.point_of_z-lo.ensures.count (omega (arith, c.loop-axis.invariant.room, c.requires.axes)) in
    let upper = AreUpper-taken c.args.mask.now lo hi c.loop-axis.upper c.args.digits c.args.axes c.loop-axis.axis c.point_of.ensures c.point_of_z-lo.ensures.count c.loop-axis-test.false c.loop-axis.invariant.known in
    Some-from_SomeIff c.new.result (AreEnds lo hi) (zip lo hi) c.new.ensures (AreEnds-box c.args.mask.now lo hi c.args.digits c.len.ensures.valid.few same upper)

pub returns-clause-points : goal.returns-clause-points
returns-clause-points c p =
    let lo = c.point_of_z-lo.result in
    let hi = c.point_of.result in
    let mask = c.args.mask.now in
    let same = same_axes-taken lo hi c.loop-axis.upper c.args.axes c.point_of.ensures c.point_of_z-lo.ensures.count (omega (arith, c.loop-axis.invariant.room, c.requires.axes)) in
    let upper = AreUpper-taken mask lo hi c.loop-axis.upper c.args.digits c.args.axes c.loop-axis.axis c.point_of.ensures c.point_of_z-lo.ensures.count c.loop-axis-test.false c.loop-axis.invariant.known in
    let corner = IsCorner-made mask lo c.args.digits c.args.front c.len.result c.len.ensures.count (omega (arith, c.len.ensures.valid.few)) c.requires.digits c.requires.front c.point_of_z-lo.ensures.below c.point_of_z-lo.ensures.address in
    let is : c.unwrap.result ≡ zip lo hi = value-from_SomeIff c.new.result (AreEnds lo hi) (zip lo hi) c.unwrap.result c.new.ensures c.unwrap.ensures in
    subst (λ r. LiesIn r p ↔ HasPrefix mask c.args.axes c.args.digits c.args.front p) (sym is)
    (subst (λ n. LiesIn (zip lo hi) p ↔ HasPrefix mask n c.args.digits c.args.front p) c.point_of_z-lo.ensures.count (box_iff_prefix mask lo hi p c.args.digits c.args.front corner same upper))

pub returns-clause-axes : goal.returns-clause-axes
returns-clause-axes c =
    let lo = c.point_of_z-lo.result in
    let hi = c.point_of.result in
    let same = same_axes-taken lo hi c.loop-axis.upper c.args.axes c.point_of.ensures c.point_of_z-lo.ensures.count (omega (arith, c.loop-axis.invariant.room, c.requires.axes)) in
    let is : c.unwrap.result ≡ zip lo hi = value-from_SomeIff c.new.result (AreEnds lo hi) (zip lo hi) c.unwrap.result c.new.ensures c.unwrap.ensures in
    ap length is ∙ length-zip_ends lo hi same ∙ c.point_of_z-lo.ensures.count
