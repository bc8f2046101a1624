use Rattle.std.proofs.Common.{◌+◌, ◌<◌, get_or, arith}
use borrow.Author.Tests.{ltb-true}
use Rattle.idx_check.proofs.CellLemmas.{begins_behind, ends_before}
use Rattle.idx_check.proofs.cell.Level.misses.Goals as goal

pub returns-then-get-first : goal.returns-then-get-first
returns-then-get-first c = λ yes p around lies.
    let l = c.args.self.now in
    let cell = c.args.cell.now in
    let upper : get_or l.hi c.args.axis 0 < get_or cell.first c.args.axis 0 = omega (arith, c.if-get-first.true, c.get.ensures.value) in
    ends_before l cell p c.args.axis c.requires.ends c.requires.axis upper around lies

pub returns-else-get-first : goal.returns-else-get-first
returns-else-get-first c = λ yes p around lies.
    let l = c.args.self.now in
    let cell = c.args.cell.now in
    let less = ltb-true _ _ yes in
    let lower : get_or cell.end c.args.axis 0 < get_or l.lo c.args.axis 0 + get_or l.step c.args.axis 0 = omega (arith, less, c.get-else-get-first.ensures.value, c.get-else-get-first-2.ensures.value) in
    begins_behind l cell p c.args.axis c.requires.ends c.requires.axis lower around lies
