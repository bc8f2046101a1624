use Rattle.std.proofs.Common.{◌-◌, ◌^◌, length, sym, arith}
use Rattle.idx_layout.specs.Placing.{has_point_in}
use Rattle.idx_layout.specs.Runs.{first_of_run}
use Rattle.idx_layout.proofs.FindLemmas.{find-at, find-none}
use Rattle.idx_layout.proofs.RunLemmas.{none_joined}
use Rattle.idx_layout.proofs.next_block.next_present.Goals as goal

pub returns-in-Some-clause-value : goal.returns-in-Some-clause-value
returns-in-Some-clause-value c =
    let mask = c.args.mask.now in
    let region = c.args.region.now in
    sym (find-at (has_point_in mask region c.args.bits) c.args.from (2 ^ (length mask - c.args.bits) - c.args.from) c.first_block.result
    (omega (arith, c.in-Some.ensures.from, c.first_block.ensures.from)) (omega (arith, c.in-Some.ensures.from, c.first_block.ensures.from, c.first_block.ensures.exists))
    (none_joined mask region c.args.bits c.args.from (first_of_run c.in-Some.run') c.first_block.result c.in-Some.ensures.before c.first_block.ensures.before)
    c.first_block.ensures.point)

pub returns-in-None-clause-value : goal.returns-in-None-clause-value
returns-in-None-clause-value c =
    let mask = c.args.mask.now in
    sym (find-none (has_point_in mask c.args.region.now c.args.bits) c.args.from (2 ^ (length mask - c.args.bits) - c.args.from)
    (λ block low high. c.in-None.ensures.none block low (omega (arith, low, high))))
