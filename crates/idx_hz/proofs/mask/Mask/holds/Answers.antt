use Rattle.idx_hz.proofs.RegionLemmas.{holds_iff}
use Rattle.idx_hz.proofs.mask.Mask.holds.Goals as goal

pub returns-clause-points : goal.returns-clause-points
returns-clause-points c =
    let end = c.holds_end.ensures.end in
    let all = holds_iff c.args.self.now c.args.region.now c.holds_end.ensures.valid.ordered in
    (λ t. all.0 (end.0 t), λ h. end.1 (all.1 h))
