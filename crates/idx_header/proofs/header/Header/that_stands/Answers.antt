use Rattle.std.proofs.Common.{◌≡◌, Some, None, ap, ◌∙◌}
use Rattle.idx_header.proofs.RevisionLemmas.{own_revision}
use Rattle.idx_header.proofs.header.Header.that_stands.Goals as goal

pub returns-clause-untimed : goal.returns-clause-untimed
returns-clause-untimed g c = λ e.
    let said = c.in_ok-next.ensures.untimed e in
    let one : c.in_ok-next.next ≡ 1 = cc (said.0) in
    (ap Some (c.in_ok-copy_at.ensures.same ∙ own_revision c.args.self.now c.in_ok-next.next one (c.in_ok-copy_at.ensures.valid.unrevised e)), said.1)
