use Rattle.std.proofs.Common.{◌≡◌, ◌-◌, arith}
use Rattle.idx_plan.proofs.SpanLemmas.{lower_half, lower_whole, upper_half, upper_whole}
use Rattle.idx_plan.proofs.span.half_of.Goals as goal

pub returns-then-bit-eq0-clause-numbers : goal.returns-then-bit-eq0-clause-numbers
returns-then-bit-eq0-clause-numbers c =
    lower_half c.args.first c.args.end c.args.left (c.args.left - 1) c.middle-cut.result c.min.result c.args.bit (omega arith) c.requires.span c.middle-cut.ensures c.min.ensures c.if-bit-eq0.true

pub returns-then-bit-eq0-clause-whole : goal.returns-then-bit-eq0-clause-whole
returns-then-bit-eq0-clause-whole c =
    lower_whole c.args.first c.args.end c.args.left (c.args.left - 1) c.middle-cut.result c.min.result (omega arith) c.middle-cut.ensures c.min.ensures c.requires.span

pub returns-else-bit-eq0-clause-numbers : goal.returns-else-bit-eq0-clause-numbers
returns-else-bit-eq0-clause-numbers c =
    let one : c.args.bit ≡ 1 = omega (arith, c.requires.bit, c.if-bit-eq0.false) in
    upper_half c.args.first c.args.end c.args.left (c.args.left - 1) c.middle-cut.result c.max.result c.args.bit (omega arith) c.requires.span c.middle-cut.ensures c.max.ensures one

pub returns-else-bit-eq0-clause-whole : goal.returns-else-bit-eq0-clause-whole
returns-else-bit-eq0-clause-whole c =
    upper_whole c.args.first c.args.end c.args.left (c.args.left - 1) c.middle-cut.result c.max.result (omega arith) c.middle-cut.ensures c.max.ensures c.requires.span
