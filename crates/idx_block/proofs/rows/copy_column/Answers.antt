use Rattle.std.proofs.Common.{◌≡◌, ℕ, ◌+◌, ◌*◌, ◌<◌, [], ap, ◌∙◌, arith}
use Rattle.std.specs.Prelude.{slice_index}
use Rattle.idx_lanes.specs.Spread.{part_after}
use Rattle.idx_lanes.proofs.CopyLemmas.{so_far-all, so_far-more, copy-made}
use Rattle.idx_block.proofs.rows.copy_column.Goals as goal

pub loop-k-preserved : goal.loop-k-preserved
loop-k-preserved g c = λ want right.
    let band = c.args.band.now in
    let size : ℕ = g.S.Sample.bytes c.args.sample in
    let k : ℕ = c.loop-k.k in
    let within : k < band.count = omega (arith, c.loop-k-test.true, c.requires.band) in
    let fits = c.requires.within k within in
    let at : (c.args.place + slice_index c.args.parts k) * c.bytes.result ≡ (c.args.place + part_after band.bits band.first k) * size =
    ap (λ n. (c.args.place + slice_index c.args.parts k) * n) c.bytes.ensures ∙ ap (λ n. (c.args.place + n) * size) (c.requires.parts k (omega (arith, c.loop-k-test.true))) in
    so_far-more want size band [] c.args.from c.args.place k c.args.into.now c.loop-k.into c.copy.new.out (c.loop-k.invariant want right)
    (copy-made want size (c.args.from + k * band.step) (c.args.place + part_after band.bits band.first k) ((c.args.place + slice_index c.args.parts k) * c.bytes.result)
    c.args.samples.now c.loop-k.into c.copy.new.out fits.0 (omega (arith, fits.1, c.loop-k.auto.into)) at c.copy.ensures (right k within))

pub returns : goal.returns
returns g c = λ want right.
    let band = c.args.band.now in
    so_far-all want (g.S.Sample.bytes c.args.sample) band [] c.args.from c.args.place c.loop-k.k c.args.into.now c.loop-k.into (omega (arith, c.loop-k-test.false, c.requires.band))
    (c.loop-k.invariant want right)
