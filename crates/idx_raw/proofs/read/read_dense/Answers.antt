use Rattle.std.proofs.Common.{◌≡◌, length, take, drop, IfSome, arith}
use Rattle.idx_stride.specs.Strides.{offsets_of}
use Rattle.idx_raw.specs.Reads.{AreSamples}
use Rattle.idx_raw.proofs.ReadLemmas.{OnOk-weaker, dense_end, AreSamples-dense}
use Rattle.idx_raw.proofs.read.read_dense.Goals as goal

pub read_at-requires : goal.read_at-requires
read_at-requires g c = λ bytes known.
    omega (arith, c.first.ensures.base, c.requires.room, c.requires.within bytes known, dense_end c.args.strides.now (length (offsets_of c.args.strides.now)) c.requires.dense c.requires.some)

pub returns-clause-read : goal.returns-clause-read
returns-clause-read g c =
    OnOk-weaker c.read_at.result
    (IfSome (g.V.Source.contents c.args.raw.now) (λ bytes. c.read_at.new.into ≡ take (length c.args.out.now) (drop c.first.result bytes)))
    (AreSamples (g.V.Source.contents c.args.raw.now) c.args.strides.now c.read_at.new.into)
    (λ h. AreSamples-dense (g.V.Source.contents c.args.raw.now) c.args.strides.now c.first.result (length c.args.out.now) c.read_at.new.into c.requires.dense c.first.ensures.base c.requires.room h)
    c.read_at.ensures.read
