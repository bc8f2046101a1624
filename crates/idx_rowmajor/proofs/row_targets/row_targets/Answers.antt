use Rattle.std.proofs.Common.{ℕ, ◌≤◌, ◌<◌, ◌+◌, ◌-◌, length, sym, subst, arith}
use Rattle.idx_rowmajor.specs.Targets.{GiveRowPlaces}
use Rattle.idx_rowmajor.proofs.BlockPlaceLemmas.{ArePlaces-block}
use Rattle.idx_rowmajor.proofs.TargetLemmas.{ArePlaces-mirrored}
use Rattle.idx_rowmajor.proofs.TurnedLemmas.{GiveRowPlaces-first, GiveRowPlaces-later, IsLater-of, highest-lt}
use Rattle.idx_rowmajor.proofs.row_targets.row_targets.Goals as goal

pub targets-requires-else-block-eq0-clause-digits : goal.targets-requires-else-block-eq0-clause-digits
targets-requires-else-block-eq0-clause-digits c =
    let inside : c.ilog2.result < length c.args.mask.now - c.args.bits = highest-lt c.ilog2.result (length c.args.mask.now - c.args.bits) c.args.block c.ilog2.ensures.power_le c.requires.exists in
    omega arith

pub returns-then-block-eq0-clause-places : goal.returns-then-block-eq0-clause-places
returns-then-block-eq0-clause-places c =
    let fits : 0 + c.args.bits ≤ length c.args.mask.now = omega (arith, c.requires.fits) in
    ArePlaces-mirrored c.args.bits c.targets.result c.mirrored.result c.mirrored.ensures.value
    (ArePlaces-block c.args.mask.now c.targets.result 5 0 c.args.bits c.requires.mask.digits fits c.targets.ensures.value)

pub returns-then-block-eq0-clause-value : goal.returns-then-block-eq0-clause-value
returns-then-block-eq0-clause-value c axes named =
    subst (λ (block : ℕ). GiveRowPlaces c.args.mask.now axes c.args.bits block c.mirrored.result) (sym c.if-block-eq0.true)
    (GiveRowPlaces-first c.args.mask.now c.targets.result c.mirrored.result axes c.args.bits named c.requires.fits c.targets.ensures.value c.mirrored.ensures.value)

pub returns-else-block-eq0-clause-places : goal.returns-else-block-eq0-clause-places
returns-else-block-eq0-clause-places c =
    let inside : c.ilog2.result < length c.args.mask.now - c.args.bits = highest-lt c.ilog2.result (length c.args.mask.now - c.args.bits) c.args.block c.ilog2.ensures.power_le c.requires.exists in
    ArePlaces-block c.args.mask.now c.targets-else-block-eq0.result 5 c.ilog2.result c.args.bits c.requires.mask.digits (omega arith) c.targets-else-block-eq0.ensures.value

pub returns-else-block-eq0-clause-value : goal.returns-else-block-eq0-clause-value
returns-else-block-eq0-clause-value c axes named =
    let inside : c.ilog2.result < length c.args.mask.now - c.args.bits = highest-lt c.ilog2.result (length c.args.mask.now - c.args.bits) c.args.block c.ilog2.ensures.power_le c.requires.exists in
    GiveRowPlaces-later c.args.mask.now c.targets-else-block-eq0.result axes c.args.bits c.ilog2.result c.args.block
    (IsLater-of c.args.mask.now axes c.args.bits c.ilog2.result c.args.block named c.requires.fits inside c.ilog2.ensures.power_le c.ilog2.ensures.next_power_gt)
    c.requires.exists c.targets-else-block-eq0.ensures.value
