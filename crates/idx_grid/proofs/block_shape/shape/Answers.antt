use Rattle.std.proofs.Common.{◌≡◌, suc, ◌+◌, ◌-◌, ◌*◌, ◌%◌, ◌^◌, ◌<◌, ◌↔◌, subst, arith}
use Rattle.std.proofs.lemmas.Nat.{one_shl}
use Rattle.idx_geom.specs.Region.{LiesIn}
use Rattle.idx_grid.specs.Grid.{LiesOn}
use Rattle.idx_grid.specs.Block.{HasPrefix}
use Rattle.idx_grid.proofs.BlockShapeLemmas.{first_block_iff, other_block_iff, level_of_block, level-from_first_block, level-from_other_block}
use Rattle.idx_grid.proofs.block_shape.shape.Goals as goal
use Rattle.idx_grid.proofs.block_shape.shape.Goals.{After-grid_at}

pub returns-then-block-eq0-clause-points : goal.returns-then-block-eq0-clause-points
returns-then-block-eq0-clause-points c p =
    first_block_iff c.args.mask.now p c.args.axes c.args.bits c.args.block (LiesIn c.prefix_box.result p) (LiesOn c.grid_up_to.result p) c.if-block-eq0.true (c.prefix_box.ensures.points p) (c.grid_up_to.ensures.points p)

pub returns-then-block-eq0-clause-levels : goal.returns-then-block-eq0-clause-levels
returns-then-block-eq0-clause-levels c p here = (omega arith, level-from_first_block c.args.mask.now p c.args.axes c.args.bits c.args.block c.if-block-eq0.true here)

-- the level is one more than the digits that are known
next : (c : After-grid_at) → c.args.bits + c.highest_one-digits.result + 1 ≡ suc (c.args.bits + c.highest_one-digits.result)
next c = omega arith

below : (c : After-grid_at) → c.args.block < 2 ^ suc c.highest_one-digits.result
below c = let more : c.highest_one-digits.result + 1 ≡ suc c.highest_one-digits.result = omega arith in subst (λ k. c.args.block < 2 ^ k) more c.highest_one-digits.ensures.to

pub returns-clause-points : goal.returns-clause-points
returns-clause-points c p =
    let k = c.highest_one-digits.result in
    let power : (1 * 2 ^ k) % 2 ^ 64 ≡ 2 ^ k = one_shl k 64 (omega (arith, c.highest_one-digits.ensures.within, c.len.ensures.valid.few)) in
    other_block_iff c.args.mask.now p c.args.axes c.args.bits k c.args.block (c.args.bits + k + 1) (LiesIn c.prefix_box-2.result p) (LiesOn c.grid_at.result p) (next c) c.highest_one-digits.ensures.from (below c)
    (subst (λ f. LiesIn c.prefix_box-2.result p ↔ HasPrefix c.args.mask.now c.args.axes k (c.args.block - f) p) power (c.prefix_box-2.ensures.points p))
    (c.grid_at.ensures.points p)

pub returns-clause-level : goal.returns-clause-level
returns-clause-level c some =
    level_of_block c.args.bits c.highest_one-digits.result c.args.block (c.args.bits + c.highest_one-digits.result + 1) (next c) c.highest_one-digits.ensures.from (below c)

pub returns-clause-levels : goal.returns-clause-levels
returns-clause-levels c p here =
    let is = level-from_other_block c.args.mask.now p c.args.axes c.args.bits c.highest_one-digits.result c.args.block (c.args.bits + c.highest_one-digits.result + 1) (next c) c.highest_one-digits.ensures.from (below c) here in
    (omega arith, omega arith)
