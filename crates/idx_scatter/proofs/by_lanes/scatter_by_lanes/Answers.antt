use Rattle.std.proofs.Common.{◌≡◌, ◌↔◌, ℕ, suc, ◌+◌, ◌-◌, ◌*◌, ◌^◌, ◌<◌, List, true, false, length, refl, sym, ap, ◌∙◌, subst, arith}
use Rattle.std.specs.Prelude.{◌&&◌, nat_le}
use Rattle.idx_geom.specs.Region.{HasExactly, LiesIn, common_bounds, upper_ends}
use Rattle.idx_geom.proofs.LiesInLemmas.{length_from_LiesIn}
use Rattle.idx_hz.specs.Address.{level}
use Rattle.idx_hz.specs.Answer.{has_level}
use Rattle.idx_hz.specs.Mask.{HasAddress, IsMask, NamesAxes}
use Rattle.idx_hz.proofs.RegionLemmas.{HasAddress-from_end}
use Rattle.std.proofs.lemmas.List.{length-map}
use Rattle.idx_grid.specs.Grid.{LiesOn}
use Rattle.idx_grid.specs.Block.{IsInBlock}
use Rattle.idx_grid.specs.LevelGrid.{IsGridAt}
use Rattle.idx_layout.proofs.PresentLemmas.{common_axes}
use Rattle.idx_lanes.specs.declared.block_part.BlockPart.{BlockPart}
use Rattle.idx_lanes.specs.Lanes.{AreNumbers, byte_at, place_at}
use Rattle.idx_lanes.proofs.LevelLemmas.{HasDigits, digits-of_level}
use Rattle.idx_lanes.proofs.SettingLemmas.{IsSetting}
use Rattle.idx_scatter.specs.Asked.{Asked, asked_points}
use Rattle.idx_scatter.specs.Moves.{AreMovedBy, IsAsked, IsThere}
use Rattle.idx_scatter.specs.Scatter.{IsScattered}
use Rattle.idx_scatter.proofs.PointLemmas.{IsMove, all-scattered, moves-asked, moves-there, none-scattered, wanted}
use Rattle.idx_scatter.proofs.by_lanes.scatter_by_lanes.Goals as goal
use Rattle.idx_scatter.proofs.by_lanes.scatter_by_lanes.Goals.{After-shape-shape}

-- what is asked for, by the mask and the region that were taken from the order
abbrev here : After-shape-shape → Asked
here c = record { mask = c.mask-mask.result.now; region = c.region-region.result.now; lo = c.args.order.now.lo; hi = c.args.order.now.hi }

order_is : (c : After-shape-shape) → here c ≡ c.args.order.now
order_is c = λ i. record { mask = c.mask-mask.ensures i; region = c.region-region.ensures i; lo = c.args.order.now.lo; hi = c.args.order.now.hi }

mask_is : (c : After-shape-shape) → IsMask c.mask-mask.result.now
mask_is c = subst (λ (m : List ℕ). IsMask m) (sym c.mask-mask.ensures) c.requires.mask

address : (c : After-shape-shape) → HasAddress c.mask-mask.result.now (upper_ends c.region-region.result.now)
address c = subst (λ (a : Asked). HasAddress a.mask (upper_ends a.region)) (sym (order_is c)) c.requires.address

long : (c : After-shape-shape) → length c.mask-mask.result.now ≡ length c.args.order.now.mask
long c = ap length c.mask-mask.ensures

levels : (c : After-shape-shape) → HasDigits (length c.mask-mask.result.now) c.args.bits c.args.block c.shape-shape.result.hi_level
levels c =
    digits-of_level (length c.mask-mask.result.now) c.args.bits c.args.block c.shape-shape.result.hi_level (omega (arith, long c, c.requires.bits)) (mask_is c).few
    (subst (λ (n : ℕ). c.args.block < 2 ^ (n - c.args.bits)) (sym (long c)) c.requires.exists) c.requires.other (c.shape-shape.ensures.level c.requires.other)

named : (c : After-shape-shape) → NamesAxes c.mask-mask.result.now (length c.region-region.result.now)
named c = subst (λ (n : ℕ). NamesAxes c.mask-mask.result.now n) (length-map c.region-region.result.now (λ (b : ℕ × ℕ). b.1)) (address c).named

has : (c : After-shape-shape) (p : List ℕ) → LiesIn c.region-region.result.now p → HasAddress c.mask-mask.result.now p
has c p inside = HasAddress-from_end c.mask-mask.result.now c.region-region.result.now p (address c) inside

in_shape : (c : After-shape-shape) (p : List ℕ) →
    IsInBlock c.mask-mask.result.now (length c.region-region.result.now) c.args.bits c.args.block p ↔ (LiesIn c.shape-shape.result.region p × LiesOn c.shape-shape.result.grid p)
in_shape c = subst (λ (n : ℕ). (p : List ℕ) →
    IsInBlock c.mask-mask.result.now n c.args.bits c.args.block p ↔ (LiesIn c.shape-shape.result.region p × LiesOn c.shape-shape.result.grid p)) c.axes.ensures.count c.shape-shape.ensures.points

grid : (c : After-shape-shape) → IsGridAt c.mask-mask.result.now (length c.region-region.result.now) (suc (c.args.bits + (c.shape-shape.result.hi_level - 1 - c.args.bits))) c.shape-shape.result.grid
grid c =
    subst (λ (h : ℕ). IsGridAt c.mask-mask.result.now (length c.region-region.result.now) h c.shape-shape.result.grid) (sym (levels c).same)
    (subst (λ (n : ℕ). IsGridAt c.mask-mask.result.now n c.shape-shape.result.hi_level c.shape-shape.result.grid) c.axes.ensures.count (c.shape-shape.ensures.grid c.requires.other))

level_is : (c : After-shape-shape) (p : List ℕ) → IsInBlock c.mask-mask.result.now (length c.region-region.result.now) c.args.bits c.args.block p →
    level c.mask-mask.result.now p ≡ c.shape-shape.result.hi_level
level_is c p inside =
    let block = subst (λ (n : ℕ). IsInBlock c.mask-mask.result.now n c.args.bits c.args.block p) (sym c.axes.ensures.count) inside in
    let range = c.shape-shape.ensures.levels p block in
    omega (arith, range.0, range.1, c.shape-shape.ensures.one_level c.requires.other)

abbrev part_of : (c : After-shape-shape) → List (ℕ × ℕ) → BlockPart
part_of c common = record {
  mask = c.mask-mask.result.now;
  bits = c.args.bits;
  k = c.shape-shape.result.hi_level - 1 - c.args.bits;
  region = c.region-region.result.now;
  common = common;
  size = 1;
}

setting : (c : After-shape-shape) (common : List (ℕ × ℕ)) → common ≡ common_bounds c.region-region.result.now c.shape-shape.result.region →
    HasExactly common (λ p. LiesIn c.region-region.result.now p × LiesIn c.shape-shape.result.region p) →
    IsSetting (part_of c common) c.shape-shape.result.region c.shape-shape.result.grid c.args.block
setting c common is both = record {
  few = (mask_is c).few;
  digits = (levels c).within;
  named = named c;
  has = has c;
  both = both;
  points = in_shape c;
  level_is = λ p inside. level_is c p inside ∙ sym (levels c).same;
  grid_is = grid c;
  axes = sym (common_axes c.region-region.result.now c.shape-shape.result.region common (length c.region-region.result.now) is (sym c.axes.ensures.count ∙ sym c.shape-shape.ensures.axes) refl);
}

move : (c : After-shape-shape) (common : List (ℕ × ℕ)) → (nat_le c.args.order.now.lo c.shape-shape.result.hi_level && nat_le c.shape-shape.result.hi_level c.args.order.now.hi) ≡ true →
    IsMove (here c) (part_of c common) c.args.size c.args.samples.now c.args.into.now
move c common asked = record {
  unit = refl;
  mask = refl;
  region = refl;
  few = c.axes.ensures.valid.few;
  asked = ap (λ n. nat_le c.args.order.now.lo n && nat_le n c.args.order.now.hi) (levels c).same ∙ asked;
  read = c.requires.samples;
  room = subst (λ (a : Asked). length c.args.into.now ≡ c.args.size * length (asked_points a)) (sym (order_is c)) c.requires.room;
}

-- a point of the block in the region, that is asked for, has the block's level
none : (c : After-shape-shape) → ((p : List ℕ) → LiesIn c.region-region.result.now p → has_level c.mask-mask.result.now c.args.order.now.lo c.args.order.now.hi p ≡ true →
    IsInBlock c.mask-mask.result.now (length c.region-region.result.now) c.args.bits c.args.block p → ⊥) →
    IsScattered c.args.order.now c.args.bits c.args.block c.args.size c.args.samples.now c.args.into.now c.args.into.now
none c apart =
    subst (λ (a : Asked). IsScattered a c.args.bits c.args.block c.args.size c.args.samples.now c.args.into.now c.args.into.now) (order_is c)
    (none-scattered (here c) c.args.bits c.args.block c.args.size c.args.samples.now c.args.into.now (λ p inside asked block.
    apart p inside asked (record { size = length_from_LiesIn c.region-region.result.now p inside; has = has c p inside; address = block })))

pub returns-then-not-asks : goal.returns-then-not-asks
returns-then-not-asks c =
    let at = (goal.at.returns-then-not-asks c).After-shape-shape in
    none at (λ p inside asked block.
    let same = ap (λ n. nat_le c.args.order.now.lo n && nat_le n c.args.order.now.hi) (sym (level_is at p block)) in
    let wrong : false ≡ true = sym c.if-not-asks.true ∙ c.asks.ensures ∙ same ∙ asked in
    cc)

pub overflow_sub-part-in-Some : goal.overflow_sub-part-in-Some
overflow_sub-part-in-Some c = omega (arith, (levels (goal.at.overflow_sub-part-in-Some c).After-shape-shape).deeper)

pub move_points-requires-clause-digits : goal.move_points-requires-clause-digits
move_points-requires-clause-digits c = (levels (goal.at.move_points-requires-clause-digits c).After-shape-shape).within

pub move_points-requires-clause-grid : goal.move_points-requires-clause-grid
move_points-requires-clause-grid c = grid (goal.at.move_points-requires-clause-grid c).After-shape-shape

pub move_points-requires-clause-within : goal.move_points-requires-clause-within
move_points-requires-clause-within c =
    let at = (goal.at.move_points-requires-clause-within c).After-shape-shape in
    let part : BlockPart = part_of at c.in-Some.common in
    let asked = sym c.asks.ensures ∙ c.if-not-asks.false in
    subst (λ (a : Asked). (ks : ℕ → ℕ) → AreNumbers part (length part.region) ks →
    IsThere a c.args.size c.args.samples.now c.args.into.now (byte_at part (length part.region) ks) (place_at part (length part.region) ks)) (order_is at)
    (moves-there c.args.order.now.lo c.args.order.now.hi part c.shape-shape.result.region c.shape-shape.result.grid c.args.block c.args.size c.args.samples.now c.args.into.now
    (setting at c.in-Some.common c.in-Some.ensures.bounds.1 c.in-Some.ensures.points) (move at c.in-Some.common asked))

pub returns-in-Some : goal.returns-in-Some
returns-in-Some c =
    let at = (goal.at.returns-in-Some c).After-shape-shape in
    let part : BlockPart = part_of at c.in-Some.common in
    let asked = sym c.asks.ensures ∙ c.if-not-asks.false in
    let is = setting at c.in-Some.common c.in-Some.ensures.bounds.1 c.in-Some.ensures.points in
    let moves = move at c.in-Some.common asked in
    let want : ℕ → List ℕ = wanted (here at) c.args.bits c.args.block c.args.size c.args.samples.now c.args.into.now in
    subst (λ (a : Asked). IsScattered a c.args.bits c.args.block c.args.size c.args.samples.now c.args.into.now c.move_points.new.into) (order_is at)
    (all-scattered c.args.order.now.lo c.args.order.now.hi part c.shape-shape.result.region c.shape-shape.result.grid c.args.block c.args.size c.args.samples.now c.args.into.now is moves c.move_points.new.into
    (subst (λ (a : Asked). AreMovedBy a want c.args.size part (length part.region) c.args.into.now c.move_points.new.into) (sym (order_is at))
    (c.move_points.ensures want
    (subst (λ (a : Asked). (ks : ℕ → ℕ) → AreNumbers part (length part.region) ks →
    IsAsked a want c.args.size c.args.samples.now (byte_at part (length part.region) ks) (place_at part (length part.region) ks)) (order_is at)
    (moves-asked c.args.order.now.lo c.args.order.now.hi part c.shape-shape.result.region c.shape-shape.result.grid c.args.block c.args.size c.args.samples.now c.args.into.now is moves)))))

pub returns-in_default : goal.returns-in_default
returns-in_default c =
    let at = (goal.at.returns-in_default c).After-shape-shape in
    none at (λ p inside asked block. c.in_default.ensures.bounds (p, (inside, ((in_shape at p).0 block).0)))
