use Rattle.std.proofs.Common.{ℕ, ◌<◌, ◌^◌, sym, subst}
use Rattle.idx_rowmajor.proofs.InverseLemmas.{ArePlaces-inverse}
use Rattle.idx_rowmajor.proofs.TurnedLemmas.{IsPairing-bits_of, offset_at-carried}
use Rattle.idx_rowmajor.proofs.places.offset_of_place.Goals as goal

pub carried-carrying-requires-clause-places : goal.carried-carrying-requires-clause-places
carried-carrying-requires-clause-places c =
    ArePlaces-inverse c.args.bits c.row_targets-targets.result c.inverse.result c.inverse.ensures.value c.row_targets-targets.ensures.places

pub returns-clause-small : goal.returns-clause-small
returns-clause-small c =
    subst (λ (n : ℕ). n < 2 ^ c.args.bits) (sym c.bits_of.ensures) (IsPairing-bits_of c.args.bits c.args.block c.carried-carrying.result c.carried-carrying.ensures.small).0

pub returns-clause-value : goal.returns-clause-value
returns-clause-value c axes named =
    offset_at-carried c.args.mask.now c.row_targets-targets.result c.inverse.result axes c.args.bits c.args.block c.args.place c.carried-carrying.result c.bits_of.result
    (record { named = named; fits = c.requires.fits; exists = c.requires.exists }) c.row_targets-targets.ensures.places c.inverse.ensures.value
    (c.row_targets-targets.ensures.value axes named) c.requires.place c.carried-carrying.ensures c.bits_of.ensures
