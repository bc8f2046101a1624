use Rattle.std.proofs.Common.{rules, ◌≡◌, ◌+◌, ◌*◌, sym, ap, ◌∙◌, subst}
use Rattle.idx_scatter.specs.Legs.{later, place_by, tally_at}
use Rattle.idx_scatter.specs.declared.tally.Tally.{Tally}
use Rattle.idx_scatter.proofs.PaceLemmas.{plane-places}
use Rattle.idx_scatter.proofs.leg.Leg.paces.Goals as goal

pub returns : goal.returns
returns c = λ j k ordered.
    let slower = c.args.self.now in
    let leg = c.args.faster.now in
    let rows = c.args.rows.now in
    let across = c.in_ok-more_each.field-0 in
    let product : c.in_ok-across.across ≡ across * leg.fine.whole = search rules in
    plane-places slower leg rows across c.in_ok-along.along j k (c.in_ok-more_each.ensures j)
    (subst (λ (t : Tally). tally_at leg t k ≡ later (k * c.in_ok-along.along) (tally_at leg t 0)) c.at.ensures (c.in_ok-along.ensures k)) ordered
    ∙ ap (λ n. place_by (tally_at leg (tally_at slower rows 0) 0) + j * n + k * c.in_ok-along.along) (sym product)
