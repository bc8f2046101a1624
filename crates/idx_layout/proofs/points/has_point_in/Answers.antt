use Rattle.std.proofs.Common.{◌↔◌, ℕ, List, length, sym, ap, ◌∙◌, subst}
use Rattle.std.specs.Prelude.{nat_lt}
use Rattle.idx_geom.specs.Region.{LiesIn}
use Rattle.idx_hz.proofs.RegionLemmas.{HasAddress-from_end}
use Rattle.idx_grid.specs.Grid.{LiesOn, lies_on}
use Rattle.idx_grid.specs.Block.{IsInBlock}
use Rattle.idx_layout.proofs.ListLemmas.{counted}
use Rattle.idx_layout.proofs.PresentLemmas.{present-common, grid_axes, absent-apart, common_axes}
use Rattle.idx_layout.proofs.points.has_point_in.Goals as goal

pub returns-in-Some : goal.returns-in-Some
returns-in-Some c =
    let mask = c.args.mask.now in
    let region = c.args.region.now in
    let box = c.shape-shape.result.region in
    let grid = c.shape-shape.result.grid in
    let common = c.in-Some.common in
    let block : (p : List ℕ) → IsInBlock mask (length region) c.args.bits c.args.block p ↔ (LiesIn box p × LiesOn grid p) =
    subst (λ (n : ℕ). (p : List ℕ) → IsInBlock mask n c.args.bits c.args.block p ↔ (LiesIn box p × LiesOn grid p)) c.axes.ensures.count c.shape-shape.ensures.points in
    ap (λ (n : ℕ). nat_lt 0 n) c.count_in.ensures.count
    ∙ counted (lies_on grid) _
    ∙ present-common mask region box common grid c.args.bits c.args.block (record {
      has = λ p inside. HasAddress-from_end mask region p c.requires.address inside;
      block = block;
      both = c.in-Some.ensures.points;
    })

pub returns-in-None : goal.returns-in-None
returns-in-None c =
    let mask = c.args.mask.now in
    let region = c.args.region.now in
    let box = c.shape-shape.result.region in
    let grid = c.shape-shape.result.grid in
    let block : (p : List ℕ) → IsInBlock mask (length region) c.args.bits c.args.block p ↔ (LiesIn box p × LiesOn grid p) =
    subst (λ (n : ℕ). (p : List ℕ) → IsInBlock mask n c.args.bits c.args.block p ↔ (LiesIn box p × LiesOn grid p)) c.axes.ensures.count c.shape-shape.ensures.points in
    sym (absent-apart mask region box grid c.args.bits c.args.block
    (λ p inside. HasAddress-from_end mask region p c.requires.address inside) block c.in-None.ensures.bounds)

pub count_in-requires-clause-first : goal.count_in-requires-clause-first
count_in-requires-clause-first c =
    let shape = c.shape-shape.result in
    let axes = grid_axes c.args.mask.now shape.grid c.axes.result c.args.bits shape.hi_level c.args.block c.shape-shape.ensures.coarse_grid c.shape-shape.ensures.grid in
    common_axes c.args.region.now shape.region c.in-Some.common (length shape.grid.first) c.in-Some.ensures.bounds.1
    (sym c.axes.ensures.count ∙ sym c.shape-shape.ensures.axes) (axes.0 ∙ c.axes.ensures.count)

pub count_in-requires-clause-step : goal.count_in-requires-clause-step
count_in-requires-clause-step c =
    let shape = c.shape-shape.result in
    let axes = grid_axes c.args.mask.now shape.grid c.axes.result c.args.bits shape.hi_level c.args.block c.shape-shape.ensures.coarse_grid c.shape-shape.ensures.grid in
    common_axes c.args.region.now shape.region c.in-Some.common (length shape.grid.step) c.in-Some.ensures.bounds.1
    (sym c.axes.ensures.count ∙ sym c.shape-shape.ensures.axes) (axes.1 ∙ c.axes.ensures.count)
