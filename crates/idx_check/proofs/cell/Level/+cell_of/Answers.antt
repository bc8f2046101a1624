use Rattle.std.proofs.Common.{◌+◌, length, ap, ◌∙◌, arith}
use Rattle.idx_grid.specs.LevelGrid.{first_of, strides}
use Rattle.idx_check.proofs.CellLemmas.{twice_of}
use Rattle.idx_check.proofs.cell.Level.+cell_of.Goals as goal

pub cell_of-cell-requires : goal.cell_of-cell-requires
cell_of-cell-requires t c =
    let l = c.args.self.now in
    let twice = twice_of c.args.bits c.args.digits c.args.number c.if-digits-eq0.false c.requires.from c.requires.to in (
      omega (arith, c.decreases, c.if-digits-eq0.false),
      (
        c.requires.mask,
        (
          c.requires.address,
          (
            omega (arith, twice.sum, c.requires.within),
            (
              twice.from,
              (
                twice.to,
                (
                  c.requires.ends,
                  (
                    c.requires.step ∙ ap (λ n. strides l.mask n (length l.region)) twice.sum,
                    c.requires.first ∙ ap (λ n. first_of l.mask (n + 1) (length l.region)) twice.sum,
                  ),
                ),
              ),
            ),
          ),
        ),
      ),
    )
