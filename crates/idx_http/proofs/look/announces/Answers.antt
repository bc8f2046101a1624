use Rattle.std.proofs.Common.{ap, not}
use Rattle.idx_http.specs.Values.{announces}
use Rattle.idx_http.proofs.ListLemmas.{or_true, or_false, and_true, and_false}
use Rattle.idx_http.proofs.look.announces.Goals as goal

pub returns-then-eq_ignore_case : goal.returns-then-eq_ignore_case
unfolding announces
returns-then-eq_ignore_case c = or_true c.eq_ignore_case.result _ _ c.eq_ignore_case.ensures c.if-eq_ignore_case.true

pub returns-then-eq_ignore_case-2 : goal.returns-then-eq_ignore_case-2
unfolding announces
returns-then-eq_ignore_case-2 c =
    or_false c.eq_ignore_case.result _ _ _ c.eq_ignore_case.ensures c.if-eq_ignore_case.false
    (and_true c.eq_ignore_case-else-eq_ignore_case.result _ _ _ c.eq_ignore_case-else-eq_ignore_case.ensures c.if-eq_ignore_case-2.true (ap not c.is_zeros.ensures))

pub returns-else-eq_ignore_case-2 : goal.returns-else-eq_ignore_case-2
unfolding announces
returns-else-eq_ignore_case-2 c =
    or_false c.eq_ignore_case.result _ _ _ c.eq_ignore_case.ensures c.if-eq_ignore_case.false
    (and_false c.eq_ignore_case-else-eq_ignore_case.result _ _ c.eq_ignore_case-else-eq_ignore_case.ensures c.if-eq_ignore_case-2.false)
