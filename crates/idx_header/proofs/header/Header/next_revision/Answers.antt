use Rattle.std.proofs.Common.{◌≡◌, None, arith, rules}
use Rattle.idx_header.proofs.RevisionLemmas.{known_all, known_next, known_untimed}
use Rattle.idx_header.proofs.header.Header.next_revision.Goals as goal

pub returns-then-is_none-clause-next : goal.returns-then-is_none-clause-next
returns-then-is_none-clause-next g c =
    let untimed : c.args.self.now.steps ≡ None = search rules in
    known_untimed c.args.self.now c.args.step (g.B.Bay.files c.args.bay.now) untimed

pub returns-then-not-branch-clause-next : goal.returns-then-not-branch-clause-next
returns-then-not-branch-clause-next g c =
    let l = c.loop-revision in
    known_next c.args.self.now c.args.step l.revision (g.B.Bay.files c.args.bay.now) (g.B.Bay.files l.bay) c.in_ok-stands_at.field-0
    l.invariant.files c.if-not-branch.true (omega (arith, c.loop-revision-test.true)) l.invariant.stand c.in_ok-stands_at.ensures.stands

pub returns-clause-next : goal.returns-clause-next
returns-clause-next g c =
    let l = c.loop-revision in
    known_all c.args.self.now c.args.step l.revision (g.B.Bay.files c.args.bay.now)
    (omega (arith, l.auto.revision-end, c.loop-revision-test.false)) l.invariant.stand
