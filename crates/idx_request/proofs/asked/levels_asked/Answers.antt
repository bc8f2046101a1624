use Rattle.std.proofs.Common.{◌≡◌, Some, None, codes, subst}
use Rattle.idx_request.specs.Asked.{level_asked}
use Rattle.idx_request.specs.Pairs.{values}
use Rattle.idx_request.proofs.AskLemmas.{err_same, levels_refused, singles, wrong_finest, wrong_hi, wrong_lo}
use Rattle.idx_request.proofs.asked.levels_asked.Goals as goal

pub returns-in_err-lo : goal.returns-in_err-lo
returns-in_err-lo c pairs kept single =
    let h = c.args.header.now in
    levels_refused h pairs _ c.from_residual.result c.in_err-lo.field-0.0 (err_same c.from_residual.result c.in_err-lo.field-0.0 c.from_residual.ensures.1)
    (c.in_err-lo.ensures (values (codes "fromh") pairs) kept.lo (singles pairs single).lo) (wrong_lo h pairs)

pub returns-in_err-hi : goal.returns-in_err-hi
returns-in_err-hi c pairs kept single =
    let h = c.args.header.now in
    let once = singles pairs single in
    let lo = c.in_ok-lo.ensures (values (codes "fromh") pairs) kept.lo once.lo in
    levels_refused h pairs _ c.from_residual-in_err-hi.result c.in_err-hi.field-0.0
    (err_same c.from_residual-in_err-hi.result c.in_err-hi.field-0.0 c.from_residual-in_err-hi.ensures.1) (c.in_err-hi.ensures (values (codes "toh") pairs) kept.hi once.hi)
    (λ none. wrong_hi h pairs c.in_ok-lo.lo lo (subst (λ n. level_asked n (values (codes "toh") pairs) ≡ None) c.max_level.ensures.value none))

pub returns-in_err-check_finest : goal.returns-in_err-check_finest
returns-in_err-check_finest c pairs kept single =
    let h = c.args.header.now in
    let once = singles pairs single in
    let lo = c.in_ok-lo.ensures (values (codes "fromh") pairs) kept.lo once.lo in
    let hi = c.in_ok-hi.ensures (values (codes "toh") pairs) kept.hi once.hi in
    levels_refused h pairs _ c.from_residual-in_err-check_finest.result c.in_err-check_finest.field-0.0
    (err_same c.from_residual-in_err-check_finest.result c.in_err-check_finest.field-0.0 c.from_residual-in_err-check_finest.ensures.1) (c.in_err-check_finest.ensures (values (codes "maxh") pairs) kept.finest once.finest)
    (wrong_finest h pairs c.in_ok-lo.lo c.in_ok-hi.hi lo (subst (λ n. level_asked n (values (codes "toh") pairs) ≡ Some c.in_ok-hi.hi) c.max_level.ensures.value hi))

pub returns : goal.returns
returns c pairs kept single =
    let once = singles pairs single in
    let hi = c.in_ok-hi.ensures (values (codes "toh") pairs) kept.hi once.hi in
    record {
      lo = c.in_ok-lo.ensures (values (codes "fromh") pairs) kept.lo once.lo;
      hi = subst (λ n. level_asked n (values (codes "toh") pairs) ≡ Some c.in_ok-hi.hi) c.max_level.ensures.value hi;
      max = c.in_ok-check_finest.ensures (values (codes "maxh") pairs) kept.finest once.finest;
    }
