use Rattle.std.proofs.Common.{arith}
use Rattle.idx_geom.proofs.PointsLemmas.{length-points}
use Rattle.idx_geom.proofs.EndsLemmas.{size-positive}
use Rattle.idx_pieces.proofs.filling.Filling.rewind.Goals as goal

pub at-self-requires-clause-within : goal.at-self-requires-clause-within
at-self-requires-clause-within c =
    omega (arith, length-points c.args.self.now.parcel.region, size-positive c.args.self.now.parcel.region c.requires.ready.cursor.part.valid.ordered)
