use Rattle.std.proofs.Common.{ℕ, subst}
use Rattle.idx_rowmajor.specs.Bits.{Carries}
use Rattle.idx_rowmajor.proofs.TurnedLemmas.{row_place-carried}
use Rattle.idx_rowmajor.proofs.places.place_of_offset.Goals as goal

pub returns-clause-value : goal.returns-clause-value
returns-clause-value c axes named =
    row_place-carried c.args.mask.now c.row_targets-targets.result axes c.args.bits c.args.block c.args.offset c.carried.result c.row_targets-targets.ensures.places
    (c.row_targets-targets.ensures.value axes named) c.requires.offset
    (subst (λ (n : ℕ). Carries c.args.bits c.row_targets-targets.result n c.carried.result) c.bits_of.ensures c.carried.ensures)
