use Rattle.std.proofs.Common.{ℕ}
use Rattle.idx_rowmajor.specs.Rows.{sample_of}
use Rattle.idx_rowmajor.proofs.GatherLemmas.{AreTaken-back}
use Rattle.idx_rowmajor.proofs.InverseLemmas.{ArePlaces-inverse}
use Rattle.idx_rowmajor.proofs.gather.hz_to_rows.Goals as goal

pub gather-requires-clause-places : goal.gather-requires-clause-places
gather-requires-clause-places g c = ArePlaces-inverse c.args.bits c.args.targets.now c.inverse.result c.inverse.ensures.value c.requires.places

pub returns : goal.returns
returns g c =
    let size : ℕ = g.S.Sample.bytes c.args.sample in
    AreTaken-back c.args.bits c.args.block c.args.targets.now c.inverse.result (sample_of size c.gather.new.bytes) (sample_of size c.turn.new.bytes) (sample_of size c.args.bytes.now)
    c.requires.places c.inverse.ensures.value c.turn.ensures c.gather.ensures
