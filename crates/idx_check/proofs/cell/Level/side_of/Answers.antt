use Rattle.idx_check.proofs.CellLemmas.{all_inside, axes_of, held_alone, none_inside}
use Rattle.idx_check.proofs.cell.Level.side_of.Goals as goal

pub misses-requires-clause-axes : goal.misses-requires-clause-axes
misses-requires-clause-axes c = axes_of c.args.self.now c.args.cell.now c.requires.cell

pub holds-requires : goal.holds-requires
holds-requires c = record { axes = axes_of c.args.self.now c.args.cell.now c.requires.cell }

pub returns-then-misses-clause-outside : goal.returns-then-misses-clause-outside
returns-then-misses-clause-outside c = λ same. none_inside c.args.self.now c.args.cell.now c.requires.address c.requires.cell (c.misses.ensures c.if-misses.true)

pub returns-then-holds-clause-inside : goal.returns-then-holds-clause-inside
returns-then-holds-clause-inside c = λ same. all_inside c.args.self.now c.args.cell.now c.requires.address c.requires.cell (c.holds.ensures.yes c.if-holds.true)

pub returns-then-cell-eq0-clause-outside : goal.returns-then-cell-eq0-clause-outside
returns-then-cell-eq0-clause-outside c = λ same.
    none_inside c.args.self.now c.args.cell.now c.requires.address c.requires.cell
    (λ p around lies. c.holds.ensures.no c.if-holds.false (held_alone c.args.self.now c.args.cell.now p c.requires.cell c.if-cell-eq0.true around lies))
