use Rattle.std.proofs.Common.{◌≡◌, ◌↔◌, ℕ, suc, ◌+◌, ◌-◌, ◌*◌, ◌^◌, Bool, true, false, List, length, refl, sym, ap, ◌∙◌, subst, arith}
use Rattle.std.specs.Prelude.{replicate}
use Rattle.idx_geom.specs.Region.{HasExactly, HoldsAll, LiesIn, common_bounds}
use Rattle.idx_hz.specs.Address.{level}
use Rattle.idx_hz.specs.Mask.{HasAddress, NamesAxes}
use Rattle.idx_hz.proofs.RegionLemmas.{HasAddress-from_end}
use Rattle.std.proofs.lemmas.List.{length-map}
use Rattle.idx_grid.specs.Grid.{LiesOn}
use Rattle.idx_grid.specs.Block.{IsInBlock}
use Rattle.idx_grid.specs.LevelGrid.{IsGridAt}
use Rattle.idx_layout.proofs.PresentLemmas.{common_axes}
use Rattle.idx_lanes.specs.declared.block_part.BlockPart.{BlockPart}
use Rattle.idx_lanes.proofs.LevelLemmas.{HasDigits, digits-of_level}
use Rattle.idx_block.proofs.BlockLemmas.{block-made, block-none, copies-wanted, copies-within, wanted}
use Rattle.idx_lanes.proofs.SettingLemmas.{IsSetting}
use Rattle.idx_block.proofs.by_lanes.fill_by_lanes.Goals as goal
use Rattle.idx_block.proofs.by_lanes.fill_by_lanes.Goals.{After-clear_unless}

levels : (c : After-clear_unless) → HasDigits (length c.args.mask.now) c.args.bits c.args.block c.shape-shape.result.hi_level
levels c = digits-of_level (length c.args.mask.now) c.args.bits c.args.block c.shape-shape.result.hi_level c.requires.bits c.requires.mask.few c.requires.exists c.requires.other
    (c.shape-shape.ensures.level c.requires.other)

named : (c : After-clear_unless) → NamesAxes c.args.mask.now (length c.args.region.now)
named c = subst (λ (n : ℕ). NamesAxes c.args.mask.now n) (length-map c.args.region.now (λ (b : ℕ × ℕ). b.1)) c.requires.address.named

has : (c : After-clear_unless) (p : List ℕ) → LiesIn c.args.region.now p → HasAddress c.args.mask.now p
has c p inside = HasAddress-from_end c.args.mask.now c.args.region.now p c.requires.address inside

points : (c : After-clear_unless) (p : List ℕ) →
    IsInBlock c.args.mask.now (length c.args.region.now) c.args.bits c.args.block p ↔ (LiesIn c.shape-shape.result.region p × LiesOn c.shape-shape.result.grid p)
points c = subst (λ (n : ℕ). (p : List ℕ) →
    IsInBlock c.args.mask.now n c.args.bits c.args.block p ↔ (LiesIn c.shape-shape.result.region p × LiesOn c.shape-shape.result.grid p)) c.axes.ensures.count c.shape-shape.ensures.points

grid : (c : After-clear_unless) → IsGridAt c.args.mask.now (length c.args.region.now) (suc (c.args.bits + (c.shape-shape.result.hi_level - 1 - c.args.bits))) c.shape-shape.result.grid
grid c =
    subst (λ (h : ℕ). IsGridAt c.args.mask.now (length c.args.region.now) h c.shape-shape.result.grid) (sym (levels c).same)
    (subst (λ (n : ℕ). IsGridAt c.args.mask.now n c.shape-shape.result.hi_level c.shape-shape.result.grid) c.axes.ensures.count (c.shape-shape.ensures.grid c.requires.other))

level_of : (c : After-clear_unless) (p : List ℕ) → IsInBlock c.args.mask.now (length c.args.region.now) c.args.bits c.args.block p →
    level c.args.mask.now p ≡ suc (c.args.bits + (c.shape-shape.result.hi_level - 1 - c.args.bits))
level_of c p inside =
    let block = subst (λ (n : ℕ). IsInBlock c.args.mask.now n c.args.bits c.args.block p) (sym c.axes.ensures.count) inside in
    let range = c.shape-shape.ensures.levels p block in
    omega (arith, range.0, range.1, c.shape-shape.ensures.one_level c.requires.other, (levels c).same)

-- the block is cleared where the box does not hold all of it
cleared : (c : After-clear_unless) → (HoldsAll c.args.region.now c.shape-shape.result.region → ⊥) → c.clear_unless.new.into ≡ replicate (length c.clear_unless.new.into) 0
cleared c not_all = by_test c.holds.result refl
  where
    by_test : (b : Bool) → c.holds.result ≡ b → c.clear_unless.new.into ≡ replicate (length c.clear_unless.new.into) 0
    by_test true is = absurd (not_all (c.holds.ensures.points.0 is))
    by_test false is = c.clear_unless.ensures is ∙ ap (λ n. replicate n 0) (sym c.clear_unless.auto.into)

abbrev part_of : (c : After-clear_unless) → List (ℕ × ℕ) → BlockPart
part_of c common = record {
  mask = c.args.mask.now;
  bits = c.args.bits;
  k = c.shape-shape.result.hi_level - 1 - c.args.bits;
  region = c.args.region.now;
  common = common;
  size = c.args.size;
}

setting : (c : After-clear_unless) (common : List (ℕ × ℕ)) → common ≡ common_bounds c.args.region.now c.shape-shape.result.region →
    HasExactly common (λ p. LiesIn c.args.region.now p × LiesIn c.shape-shape.result.region p) →
    IsSetting (part_of c common) c.shape-shape.result.region c.shape-shape.result.grid c.args.block
setting c common is both = record {
  few = c.requires.mask.few;
  digits = (levels c).within;
  named = named c;
  has = has c;
  both = both;
  points = points c;
  level_is = level_of c;
  grid_is = grid c;
  axes = sym (common_axes c.args.region.now c.shape-shape.result.region common (length c.args.region.now) is (sym c.axes.ensures.count ∙ sym c.shape-shape.ensures.axes) refl);
}

room : (c : After-clear_unless) → length c.clear_unless.new.into ≡ c.args.size * 2 ^ c.args.bits
room c = c.clear_unless.auto.into ∙ c.requires.room

pub overflow_sub-part-in-Some : goal.overflow_sub-part-in-Some
overflow_sub-part-in-Some c = omega (arith, (levels (goal.at.overflow_sub-part-in-Some c).After-clear_unless).deeper)

pub copy_points-requires-clause-digits : goal.copy_points-requires-clause-digits
copy_points-requires-clause-digits c = (levels (goal.at.copy_points-requires-clause-digits c).After-clear_unless).within

pub copy_points-requires-clause-grid : goal.copy_points-requires-clause-grid
copy_points-requires-clause-grid c = grid (goal.at.copy_points-requires-clause-grid c).After-clear_unless

pub copy_points-requires-clause-within : goal.copy_points-requires-clause-within
copy_points-requires-clause-within c =
    let at = (goal.at.copy_points-requires-clause-within c).After-clear_unless in
    copies-within (part_of at c.in-Some.common) c.shape-shape.result.region c.shape-shape.result.grid c.args.block c.args.samples.now
    (setting at c.in-Some.common c.in-Some.ensures.bounds.1 c.in-Some.ensures.points) c.requires.samples c.clear_unless.new.into (room at)

pub returns-in-Some : goal.returns-in-Some
returns-in-Some c =
    let at = (goal.at.returns-in-Some c).After-clear_unless in
    let part : BlockPart = part_of at c.in-Some.common in
    let is = setting at c.in-Some.common c.in-Some.ensures.bounds.1 c.in-Some.ensures.points in
    block-made part c.shape-shape.result.region c.shape-shape.result.grid c.args.block c.args.samples.now is c.requires.samples c.clear_unless.new.into c.copy_points.new.into
    (levels at).exists (room at) c.copy_points.auto.into (cleared at)
    (c.copy_points.ensures (wanted part.mask part.region part.bits c.args.block part.size c.args.samples.now)
    (copies-wanted part c.shape-shape.result.region c.shape-shape.result.grid c.args.block c.args.samples.now is c.requires.samples))

pub returns-in_default : goal.returns-in_default
returns-in_default c =
    let at = (goal.at.returns-in_default c).After-clear_unless in
    block-none c.args.mask.now c.args.region.now c.shape-shape.result.region c.shape-shape.result.grid c.args.bits c.args.block c.args.size c.args.samples.now c.clear_unless.new.into
    (named at) (has at) (points at) (λ p inside in_box. c.in_default.ensures.bounds (p, (inside, in_box))) (levels at).exists (room at) (cleared at)
