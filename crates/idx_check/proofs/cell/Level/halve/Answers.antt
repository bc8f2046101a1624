use Rattle.std.proofs.Common.{ℕ, ◌<◌, length, get_or, arith}
use Rattle.std.proofs.lemmas.List.Elements.{All-get_or}
use Rattle.idx_check.proofs.CellLemmas.{cell_half, next_of}
use Rattle.idx_check.proofs.cell.Level.halve.Goals as goal

pub overflow_sub-width : goal.overflow_sub-width
overflow_sub-width c = (next_of c.args.self.now c.args.cell.now c.args.axis c.requires.address c.requires.cell c.requires.some c.requires.axis).ordered

pub returns-clause-cell : goal.returns-clause-cell
returns-clause-cell c =
    let l = c.args.self.now in
    let cell = c.args.cell.now in
    let next = next_of l cell c.args.axis c.requires.address c.requires.cell c.requires.some c.requires.axis in
    let digit : get_or l.mask cell.digits 0 < 5 = All-get_or (λ (d : ℕ). d < 5) l.mask cell.digits 0 next.within c.requires.mask.digits in
    let first : c.args.axis < length cell.first = omega (arith, digit, c.requires.axis, c.requires.cell.starts) in
    let end : c.args.axis < length cell.end = omega (arith, digit, c.requires.axis, c.requires.cell.stops) in
    cell_half l cell c.args.axis c.args.bit _ c.requires.address c.requires.cell c.requires.some c.requires.bit c.requires.axis first end next.width
