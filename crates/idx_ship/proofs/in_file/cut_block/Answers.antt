use Rattle.std.proofs.Common.{ℕ, ◌+◌, ◌-◌, ◌^◌, ◌≤◌, List, length, arith}
use Rattle.std.proofs.Math.Pow.{pow_mono}
use Rattle.idx_ship.specs.Spans.{block_addresses}
use Rattle.idx_ship.proofs.CutLemmas.{added_both}
use Rattle.idx_ship.proofs.InFileLemmas.{level_more}
use Rattle.idx_ship.proofs.in_file.cut_block.Goals as goal

pub cut_narrowed-requires-in-loop-level-clause-exists : goal.cut_narrowed-requires-in-loop-level-clause-exists
cut_narrowed-requires-in-loop-level-clause-exists c =
    let le : 1 ≤ length c.args.mask.now - c.loop-level.level = omega (arith, c.requires.bits, c.loop-level-test.true) in
    let power : 2 ^ 1 ≤ 2 ^ (length c.args.mask.now - c.loop-level.level) = pow_mono le in
    omega (arith, power)

pub loop-level-preserved : goal.loop-level-preserved
loop-level-preserved c =
    let mask : List ℕ = c.args.mask.now in
    let region : List (ℕ × ℕ) = c.args.region.now in
    added_both mask (block_addresses mask region c.loop-level.level 0) (block_addresses mask region c.loop-level.level 1) (block_addresses mask region (c.loop-level.level + 1) 0)
    c.args.spans.now.items c.loop-level.spans.items c.cut_narrowed-in-loop-level.new.spans.items
    (level_more mask region c.loop-level.level) c.loop-level.invariant c.in_ok-cut_narrowed.ensures
