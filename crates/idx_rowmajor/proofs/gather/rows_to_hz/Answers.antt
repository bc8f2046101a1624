use Rattle.std.proofs.Common.{ℕ}
use Rattle.idx_rowmajor.specs.Rows.{sample_of}
use Rattle.idx_rowmajor.proofs.GatherLemmas.{AreTaken-gathered}
use Rattle.idx_rowmajor.proofs.gather.rows_to_hz.Goals as goal

pub returns : goal.returns
returns g c =
    let size : ℕ = g.S.Sample.bytes c.args.sample in
    AreTaken-gathered c.args.bits c.args.block c.args.targets.now (sample_of size c.args.bytes.now) (sample_of size c.gather.new.bytes) (sample_of size c.turn.new.bytes)
    c.gather.ensures c.turn.ensures
