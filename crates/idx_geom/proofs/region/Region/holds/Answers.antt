use Rattle.idx_geom.proofs.LiesInLemmas.{holds_iff}
use Rattle.idx_geom.proofs.region.Region.holds.Goals as goal

pub returns-clause-points : goal.returns-clause-points
returns-clause-points c =
    let ends = c.holds_ends.ensures.ends in
    let all = holds_iff c.args.self.now c.args.other.now c.holds_ends.ensures.valid.ordered in
    (λ t. all.0 (ends.0 t), λ h. ends.1 (all.1 h))
