use Rattle.std.proofs.Common.{◌≡◌, ◌*◌, ◌/◌, ◌%◌, ap, ◌∙◌}
use Rattle.idx_scatter.specs.Legs.{later, tally_at}
use Rattle.idx_scatter.proofs.PaceLemmas.{even-later}
use Rattle.idx_scatter.proofs.SideLemmas.{whole-steps}
use Rattle.idx_scatter.proofs.leg.Leg.more_each.Goals as goal

pub returns-then-more-self : goal.returns-then-more-self
returns-then-more-self c = λ k.
    let leg = c.args.self.now in
    let sane = c.requires.fine in
    let whole : leg.step % leg.fine.stride ≡ 0 = whole-steps leg.step leg.fine.stride leg.fine.shift sane.power c.if-more-self.true sane.paced in
    even-later leg c.args.rows.now k sane c.if-rows.true c.if-not-rows.true whole
    ∙ ap (λ n. later (k * (leg.step / n)) (tally_at leg c.args.rows.now 0)) sane.power
