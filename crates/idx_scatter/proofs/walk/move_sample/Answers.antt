use Rattle.std.proofs.Common.{ℕ, ◌*◌, ap, ◌∙◌}
use Rattle.idx_scatter.proofs.MoveLemmas.{move-made}
use Rattle.idx_scatter.proofs.walk.move_sample.Goals as goal

pub returns : goal.returns
returns g c = λ want right.
    let size : ℕ = g.S.Sample.bytes c.args.sample in
    move-made want size c.args.place (c.args.place * c.bytes-size.result) (c.place.result * c.bytes-size.result) c.args.legs.now c.args.tally.now c.args.samples.now c.args.into.now c.copy.new.out
    c.requires.within.room c.requires.within.read (ap (λ n. c.args.place * n) c.bytes-size.ensures)
    (ap (λ n. c.place.result * n) c.bytes-size.ensures ∙ ap (λ n. n * size) c.place.ensures) c.copy.ensures right
