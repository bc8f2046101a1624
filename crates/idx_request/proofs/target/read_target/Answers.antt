use Rattle.std.proofs.Common.{◌≡◌, None, Err, rules, subst}
use Rattle.std.specs.List.{list_any}
use Rattle.form_urlencoded.specs.Form.{split_once}
use Rattle.idx_request.specs.Faults.{IsRead, early_fault, wish_fault}
use Rattle.idx_request.specs.Kept.{AreKept, IsAnswer}
use Rattle.idx_request.specs.Pairs.{has_double, is_bad_pair, pairs_of}
use Rattle.idx_request.proofs.AskLemmas.{no_double, short, target_read, wish_refused}
use Rattle.idx_request.proofs.target.read_target.Goals as goal

pub returns-in_default : goal.returns-in_default
returns-in_default c =
    short c.args.header.now (pairs_of (split_once 63 c.args.target.now).1) (early_fault c.args.header.now c.args.name.now c.args.target.now)

pub returns-in_err-check_wish : goal.returns-in_err-check_wish
returns-in_err-check_wish c =
    let query = (split_once 63 c.args.target.now).1 in
    let kept : AreKept (pairs_of query) c.in-Ok.parameters =
    subst (λ q. AreKept (pairs_of q) c.in-Ok.parameters) c.cut.ensures.query c.in-Ok.ensures in
    let fault = c.in_err-check_wish.field-0.0 in
    let answered : c.check_wish.result ≡ Err fault = search rules in
    let handed : Err fault ≡ c.from_residual.result = search rules in
    subst (IsRead c.args.header.now c.args.name.now c.args.target.now) handed
    (wish_refused c.args.header.now c.args.name.now c.args.target.now (search rules) fault
    (subst (IsAnswer (wish_fault c.args.name.now (pairs_of query))) answered (c.check_wish.ensures (pairs_of query) kept)))

pub returns : goal.returns
returns c =
    let query = (split_once 63 c.args.target.now).1 in
    let kept : AreKept (pairs_of query) c.in-Ok.parameters =
    subst (λ q. AreKept (pairs_of q) c.in-Ok.parameters) c.cut.ensures.query c.in-Ok.ensures in
    let wish : wish_fault c.args.name.now (pairs_of query) ≡ None = search rules in
    target_read c.args.header.now c.args.name.now c.args.target.now c.ask_of.result (search rules) (search rules)
    (c.ask_of.ensures (pairs_of query) kept (no_double (list_any is_bad_pair (pairs_of query)) (has_double (pairs_of query)) _ wish))
