use Rattle.std.proofs.Common.{ℕ, length, subst, sym, ◌∙◌}
use Rattle.std.proofs.lemmas.List.{length-map}
use Rattle.idx_hz.specs.Mask.{NamesAxes}
use Rattle.idx_ship.proofs.CutLemmas.{block_fits, held_block, one_block}
use Rattle.idx_ship.proofs.cut.is_whole.Goals as goal

pub returns-then-bits-eq0-clause-whole : goal.returns-then-bits-eq0-clause-whole
returns-then-bits-eq0-clause-whole c = λ _. one_block c.args.mask.now c.args.region.now c.args.bits c.args.number c.if-bits-eq0.true c.requires.point

pub returns-else-bits-eq0-clause-whole : goal.returns-else-bits-eq0-clause-whole
returns-else-bits-eq0-clause-whole c = λ whole.
    let named : NamesAxes c.args.mask.now c.axes.result =
    subst (λ (n : ℕ). NamesAxes c.args.mask.now n) (length-map c.args.region.now (λ (b : ℕ × ℕ). b.1) ∙ sym c.axes.ensures.count) c.requires.address.named in
    held_block c.args.mask.now c.args.region.now c.shape.result.region c.shape.result.grid c.axes.result c.args.bits c.args.number named c.shape.ensures.points (c.holds.ensures.points.0 whole)
    (block_fits (length c.args.mask.now) c.args.bits c.args.number c.requires.bits c.requires.exists)
