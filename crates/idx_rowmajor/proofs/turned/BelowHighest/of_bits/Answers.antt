use Rattle.idx_rowmajor.specs.Tables.{partner_of}
use Rattle.idx_rowmajor.proofs.GatherLemmas.{ArePlaces-involution}
use Rattle.idx_rowmajor.proofs.MirrorLemmas.{IsInvolution-mirror, reversed-carried}
use Rattle.idx_rowmajor.proofs.turned.BelowHighest.of_bits.Goals as goal

pub of_places-requires-clause-places : goal.of_places-requires-clause-places
of_places-requires-clause-places c = ArePlaces-involution c.args.bits c.mirror.result (IsInvolution-mirror c.args.bits c.mirror.result c.mirror.ensures.value)

pub returns-clause-mirror : goal.returns-clause-mirror
returns-clause-mirror c o within = reversed-carried c.args.bits c.mirror.result o (partner_of c.of_places.result o) c.mirror.ensures.value (c.of_places.ensures o within)
